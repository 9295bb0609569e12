-- The definitions give every row of the tables of specs/Cases.antt and specs/Edges.antt: antt computes them.
use mathlib.Core.Path.{refl}
use Rattle.model.specs.Marker.{direction, torn_bits, torn}
use Rattle.model.specs.Layout.{whole_pages, base, get, put, put_page, copy_of, fresh, formatted}
use Rattle.model.specs.Rights.{right, may_write, may_see}
use Rattle.model.specs.Refusals.{bad_count, bad_widths, bad_page, bad_job, first, start_number, format_number, wake_number, step_number, cut_number, inspect_number, read_number, any_foreign, begin_number}
use Rattle.model.specs.Groups.{stands}
use Rattle.model.specs.Stores.{copying, write_stores, cleanup_stores, stored}
use Rattle.model.specs.Calls as calls
use Rattle.model.specs.Ledger.{opening, marker_of, told, write_marker, cleanup_marker, saving, saving_all, accepted, fed, tells, after}
use Rattle.model.specs.PowerCut.{call, run, answers}
use Rattle.model.specs.Drive.{drive_number, drive}
use Rattle.model.specs.Cases.{EveryCase}
use Rattle.model.specs.Edges.{EveryRefusal, EveryOutcome, EveryStart, EveryPart, EveryEntry, ForeignTold, EveryInspection, EveryCount, EveryDriving, trace}

-- C1 to C12
pub every_case : EveryCase
unfolding direction torn_bits torn whole_pages base get put put_page fresh formatted bad_count bad_widths bad_page bad_job first start_number format_number wake_number step_number cut_number any_foreign begin_number copying write_stores cleanup_stores stored calls.next calls.image_after calls.lowest_bad calls.phase_after calls.payload_after calls.start calls.format calls.begin calls.step calls.wake calls.resumes stands calls.cut opening marker_of told write_marker cleanup_marker saving saving_all accepted fed tells after call run answers drive_number drive right may_write may_see
every_case = refl

pub every_refusal : EveryRefusal
unfolding whole_pages base get bad_count bad_widths bad_page bad_job first start_number format_number wake_number step_number cut_number inspect_number read_number any_foreign begin_number calls.start calls.format calls.begin calls.step calls.wake calls.resumes stands calls.cut right may_write may_see
every_refusal = refl

pub every_outcome : EveryOutcome
unfolding direction torn_bits torn whole_pages base get put put_page fresh formatted bad_count bad_widths bad_page bad_job first format_number wake_number step_number cut_number any_foreign begin_number copying write_stores cleanup_stores stored calls.next calls.image_after calls.lowest_bad calls.phase_after calls.payload_after calls.counted calls.format calls.begin calls.step calls.wake calls.resumes stands calls.cut call trace right may_write may_see
every_outcome = refl

pub every_start : EveryStart
unfolding bad_count bad_widths bad_page first start_number calls.start
every_start = refl

pub every_part : EveryPart
unfolding whole_pages base get copy_of bad_count bad_widths bad_page bad_job first read_number calls.read right may_write may_see
every_part = refl

pub every_entry : EveryEntry
unfolding torn_bits torn bad_count bad_widths bad_page bad_job first wake_number step_number cut_number any_foreign begin_number opening marker_of told write_marker cleanup_marker saving saving_all accepted fed after stands right may_write may_see
every_entry = refl

pub foreign_told : ForeignTold
unfolding bad_count bad_widths bad_page bad_job first wake_number any_foreign begin_number marker_of told accepted fed tells stands right may_write may_see
foreign_told = refl

pub every_inspection : EveryInspection
unfolding whole_pages base get bad_count bad_widths bad_page bad_job first inspect_number calls.lowest_bad calls.inspect
every_inspection = refl

pub every_count : EveryCount
unfolding direction torn_bits torn whole_pages base get put put_page fresh formatted bad_count bad_widths bad_page bad_job first start_number format_number wake_number step_number cut_number any_foreign begin_number copying write_stores cleanup_stores stored calls.next calls.image_after calls.lowest_bad calls.phase_after calls.payload_after calls.counted calls.start calls.format calls.begin calls.step calls.wake calls.resumes stands calls.cut right may_write may_see
every_count = refl

pub every_driving : EveryDriving
unfolding first drive_number drive
every_driving = refl
