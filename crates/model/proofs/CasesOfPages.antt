-- Ticket 9's tables, computed.
use mathlib.Core.Path.{refl}
use Rattle.model.specs.Marker.{torn_bits, torn}
use Rattle.model.specs.Layout.{whole_pages, base, get, put, put_page, copy_of, fresh, formatted}
use Rattle.model.specs.Rights.{right, may_write, may_see}
use Rattle.model.specs.Refusals.{bad_count, bad_widths, bad_page, bad_job, first, start_number, format_number, step_number, cut_number, inspect_number, read_number}
use Rattle.model.specs.Stores.{copying, write_stores, cleanup_stores, stored}
use Rattle.model.specs.Calls as calls
use Rattle.model.specs.CasesOfPages.{EveryRounding, EveryPlace, EveryAsking, EveryTear, EveryPaged}

pub every_rounding : EveryRounding
unfolding whole_pages
every_rounding = refl

pub every_place : EveryPlace
unfolding whole_pages base
every_place = refl

pub every_asking : EveryAsking
unfolding whole_pages base bad_count bad_widths bad_page bad_job first start_number cut_number calls.start calls.cut
every_asking = (refl, refl)

pub every_tear : EveryTear
unfolding torn_bits torn whole_pages base get put put_page bad_count bad_widths bad_page bad_job first cut_number copying write_stores cleanup_stores stored calls.next calls.image_after calls.cut
every_tear = refl

pub every_paged : EveryPaged
unfolding whole_pages base get put copy_of fresh formatted bad_count bad_widths bad_page bad_job first format_number step_number read_number inspect_number copying write_stores stored calls.next calls.image_after calls.lowest_bad calls.format calls.step calls.read calls.inspect right may_write may_see
every_paged = (refl, refl, refl, refl, refl)
