-- The definitions give every row of specs/CasesOfGroups.antt: antt computes them.
use mathlib.Core.Path.{refl}
use Rattle.model.specs.Marker.{direction, torn_bits, torn}
use Rattle.model.specs.Layout.{whole_pages, base, get, put, put_page, copy_of, fresh, formatted}
use Rattle.model.specs.Groups.{split, joined, splits, member_count, members, unsplit, among, twice, overlaps, narrow, fits, payload_of, group_in, alike, given, stands, remaining, writes, nth, write_at, is_last_write}
use Rattle.model.specs.Turns.{amount}
use Rattle.model.specs.Rights.{right, may_write, may_see}
use Rattle.model.specs.Refusals.{ride_number, bad_count, bad_widths, bad_page, bad_write, bad_job, first, start_number, format_number, wake_number, step_number, cut_number, any_foreign, begin_number, dirty, group_number}
use Rattle.model.specs.Stores.{copying, write_stores, cleanup_stores, stored}
use Rattle.model.specs.Calls as calls
use Rattle.model.specs.Ledger.{opening, marker_of, told, write_marker, saving, saving_all, count_with, accepted, fed, after}
use Rattle.model.specs.PowerCut.{call, run}
use Rattle.model.specs.CasesOfGroups.{EveryParting, EverySaved, EveryTear, EveryWrite, EveryGroupNumber, EveryRecord}

pub every_parting : EveryParting
unfolding split splits member_count members payload_of
every_parting =
    record {
      two = (refl, refl, refl);
      in_order = (refl, refl, refl);
      three = (refl, refl, refl);
      four = (refl, refl, refl);
      widest = (refl, refl, refl);
      widest_short = (refl, refl, refl);
      none = (refl, refl, refl);
      one = (refl, refl, refl);
      five = (refl, refl, refl);
      byte_short = (refl, refl, refl);
      byte_more = (refl, refl, refl);
      unit_k = (refl, refl, refl);
      unit255 = (refl, refl, refl);
    }

pub every_saved : EverySaved
unfolding torn_bits torn split joined splits member_count members unsplit among twice overlaps narrow fits payload_of group_in alike given stands remaining writes nth write_at is_last_write bad_count bad_widths bad_page bad_write bad_job first step_number cut_number dirty group_number opening marker_of told write_marker saving saving_all count_with accepted fed after
every_saved =
    record {
      begun = refl;
      before = refl;
      passed = refl;
      recorded = refl;
      in_member = refl;
      whole = refl;
      torn_to_a = refl;
      torn_off = refl;
    }

pub every_tear : EveryTear
unfolding direction torn_bits torn base whole_pages get put put_page copy_of fresh formatted split joined splits member_count members unsplit among twice overlaps narrow fits payload_of group_in alike given stands remaining writes nth write_at is_last_write bad_count bad_widths bad_page bad_write bad_job first start_number format_number wake_number step_number cut_number any_foreign dirty group_number copying write_stores cleanup_stores stored calls.next calls.image_after calls.lowest_bad calls.resumes calls.phase_after calls.payload_after calls.counted calls.start calls.format calls.group calls.step calls.wake calls.cut call run
every_tear =
    record {
      not_passed = refl;
      passed = refl;
      in_member = refl;
      not_cleared = refl;
      cleared = refl;
      again = refl;
    }

pub every_write : EveryWrite
unfolding split splits member_count payload_of remaining writes
every_write = refl

pub every_group_number : EveryGroupNumber
unfolding base whole_pages get split joined splits member_count members unsplit among twice overlaps narrow fits payload_of group_in alike given remaining writes nth write_at bad_count bad_widths bad_page bad_write bad_job first step_number begin_number dirty group_number fresh formatted start_number format_number calls.start calls.format amount copy_of ride_number calls.ride right may_write may_see
every_group_number =
    record {
      two = refl;
      three = refl;
      of_four = refl;
      in_cold = refl;
      one = refl;
      byte_short = refl;
      byte_more = refl;
      unit_k = refl;
      twice_and_more = refl;
      twice = refl;
      the_record = refl;
      no_record = refl;
      no_record_either = refl;
      byte_narrow = refl;
      record_marker = refl;
      member_marker = refl;
      begin_past = refl;
      begin_record = refl;
      begin_last = refl;
      ride_record = refl;
      ride_narrow = refl;
      ride_alone = refl;
      last_store = refl;
      ungrouped = refl;
      past_last = refl;
      all_made = refl;
      no_group = refl;
      byte_after = refl;
    }

pub every_record : EveryRecord
unfolding direction base whole_pages get copy_of split joined splits member_count members unsplit among twice overlaps narrow fits payload_of group_in alike given stands bad_count bad_widths bad_page bad_job first wake_number any_foreign calls.lowest_bad calls.resumes calls.wake
every_record =
    record {
      from_a = refl;
      not_from_b = refl;
      one = refl;
      twice = refl;
      other_count = refl;
      unit_k = refl;
      ungrouped = refl;
      zeros = refl;
      first_after = refl;
      last_after = refl;
    }
