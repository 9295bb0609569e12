-- The definitions give every row of specs/CasesOfPaidRides.antt.
use mathlib.Core.Path.{refl}
use Rattle.model.specs.Marker.{torn_bits, torn}
use Rattle.model.specs.Layout.{whole_pages, base, get, copy_of}
use Rattle.model.specs.Turns.{amount, in_bytes, plus}
use Rattle.model.specs.Prices.{price, paid_group}
use Rattle.model.specs.Groups.{split, joined, splits, member_count, members, unsplit, among, twice, overlaps, narrow, fits, payload_of, group_in, alike, given, stands, remaining, writes, nth, write_at, is_last_write}
use Rattle.model.specs.Refusals.{bad_count, bad_widths, bad_page, bad_write, bad_job, first, step_number, cut_number, wake_number, any_foreign, paid_number}
use Rattle.model.specs.Calls as calls
use Rattle.model.specs.Ledger.{opening, marker_of, told, write_marker, saving, saving_all, count_with, accepted, fed, tells, after}
use Rattle.model.specs.Totals.{passed}
use Rattle.model.specs.CasesOfPaidRides.{EveryPrice, EveryFare, EveryPaidNumber, EveryBegun, EveryTaking}

pub every_price : EveryPrice
unfolding price
every_price =
    record {
      no_turns = refl;
      one_turn = refl;
      of500 = refl;
      of501 = refl;
      of1000 = refl;
      of1001 = refl;
      of62000 = refl;
      of62001 = refl;
      of1000000 = refl;
      most = refl;
    }

pub every_fare : EveryFare
unfolding amount in_bytes plus price paid_group
every_fare = refl

pub every_paid_number : EveryPaidNumber
unfolding amount price whole_pages base get copy_of bad_count bad_widths bad_page bad_job first paid_number calls.paid_ride
every_paid_number =
    record {
      no_unit = refl;
      no_width = refl;
      short = refl;
      job_of_no_unit = refl;
      in_cold = refl;
      narrow_turns = refl;
      narrow_cents = refl;
      wide_cents = refl;
      no_unit1 = refl;
      wide_record = refl;
      unit1_is_record = refl;
      no_record = refl;
      narrow_record = refl;
      record_marker = refl;
      turns_marker = refl;
      cents_marker = refl;
      turns_full = refl;
      cents_full = refl;
      cents_fit = refl;
      cents_one_too_many = refl;
      nothing_to_add = refl;
      longest = refl;
    }

pub every_begun : EveryBegun
unfolding amount in_bytes plus price paid_group whole_pages base get copy_of splits member_count payload_of bad_count bad_widths bad_page bad_job first paid_number calls.paid_ride
every_begun = refl

pub every_taking : EveryTaking
unfolding torn_bits torn amount in_bytes plus price paid_group split joined splits member_count members unsplit among twice overlaps narrow fits payload_of group_in alike given stands remaining writes nth write_at is_last_write bad_count bad_widths bad_page bad_write bad_job first step_number cut_number wake_number any_foreign paid_number opening marker_of told write_marker saving saving_all count_with accepted fed tells after passed
every_taking =
    record {
      before = refl;
      passed = refl;
      torn_to_a = refl;
      torn_off = refl;
      refused_next = refl;
      saved_none = refl;
      saved_both = refl;
      of_no_turns = refl;
      told = refl;
    }
