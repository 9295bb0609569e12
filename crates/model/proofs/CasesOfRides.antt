-- The definitions give every row of specs/CasesOfRides.antt: antt computes them.
use mathlib.Core.Path.{refl}
use Rattle.model.specs.Marker.{direction, torn_bits, torn}
use Rattle.model.specs.Layout.{whole_pages, base, get, put, put_page, copy_of, fresh, formatted}
use Rattle.model.specs.Turns.{amount, in_bytes, plus}
use Rattle.model.specs.Groups.{stands}
use Rattle.model.specs.Rights.{right, may_write, may_see}
use Rattle.model.specs.Refusals.{bad_count, bad_widths, bad_page, bad_job, first, start_number, format_number, wake_number, step_number, cut_number, any_foreign, begin_number, ride_number, total_number}
use Rattle.model.specs.Stores.{copying, write_stores, cleanup_stores, stored}
use Rattle.model.specs.Calls as calls
use Rattle.model.specs.Ledger.{opening, marker_of, told, write_marker, cleanup_marker, saving, saving_all, accepted, fed}
use Rattle.model.specs.PowerCut.{call, run}
use Rattle.model.specs.Totals.{passed, sum}
use Rattle.model.specs.CasesOfRides.{EveryAmount, EveryBytes, EveryAsking, EveryRide, EveryTotal, EveryTally}

pub every_amount : EveryAmount
unfolding amount
every_amount = refl

pub every_bytes : EveryBytes
unfolding in_bytes
every_bytes = refl

pub every_asking : EveryAsking
unfolding amount whole_pages base get copy_of bad_count bad_widths bad_page bad_job first ride_number calls.ride
every_asking = refl

pub every_ride : EveryRide
unfolding amount in_bytes plus whole_pages base get copy_of bad_count bad_widths bad_page bad_job first ride_number calls.ride
every_ride = (refl, refl, refl, refl)

pub every_total : EveryTotal
unfolding amount whole_pages base get copy_of bad_count bad_widths bad_page bad_job first total_number calls.total_of right may_write may_see
every_total = refl

pub every_tally : EveryTally
unfolding amount in_bytes plus direction torn_bits torn whole_pages base get put put_page copy_of fresh formatted bad_count bad_widths bad_page bad_job first start_number format_number wake_number step_number cut_number any_foreign begin_number ride_number copying write_stores cleanup_stores stored calls.next calls.image_after calls.lowest_bad calls.phase_after calls.payload_after calls.counted calls.start calls.format calls.begin calls.ride calls.step calls.wake calls.resumes stands calls.cut opening marker_of told write_marker cleanup_marker saving saving_all accepted fed call run passed sum right may_write may_see
every_tally = refl
