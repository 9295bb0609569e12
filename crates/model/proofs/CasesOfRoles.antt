-- The definitions give every row of specs/CasesOfRoles.antt.
use mathlib.Core.Path.{refl}
use Rattle.model.specs.declared.Role.{Role}
use Rattle.model.specs.declared.Role.TheVariants.{Rider, Gym, Service}
use Rattle.model.specs.Rights.{right, may_write, may_see}
use Rattle.model.specs.Layout.{whole_pages, base, get, copy_of}
use Rattle.model.specs.Refusals.{bad_count, bad_widths, bad_page, bad_job, first, read_number, begin_number, total_number}
use Rattle.model.specs.Calls as calls
use Rattle.model.specs.Ledger.{opening, marker_of, told, accepted, fed, tells}
use Rattle.model.specs.CasesOfRoles.{EveryRight, EveryValue, EveryOrder, EveryTold, EveryShown}

pub every_right : EveryRight
unfolding whole_pages base get bad_count bad_widths bad_page bad_job first read_number begin_number right may_write may_see
every_right =
    record {
      read_rider = refl;
      read_gym = refl;
      read_service = refl;
      torn_rider = refl;
      torn_gym = refl;
      torn_service = refl;
      begin_rider = refl;
      begin_gym = refl;
      begin_service = refl;
      begin_torn_rider = refl;
      begin_torn_gym = refl;
      begin_torn_service = refl;
    }

pub every_value : (role : Role) → EveryValue role
unfolding whole_pages base get bad_count bad_widths bad_page bad_job first read_number begin_number right may_write may_see
every_value Rider = record { nothing = refl; see = refl; see_and_write = refl; three = refl; largest = refl }
every_value Gym = record { nothing = refl; see = refl; see_and_write = refl; three = refl; largest = refl }
every_value Service = record { nothing = refl; see = refl; see_and_write = refl; three = refl; largest = refl }

pub every_order : EveryOrder
unfolding whole_pages base get bad_count bad_widths bad_page bad_job first read_number total_number begin_number right may_write may_see
every_order =
    record {
      read_cold = refl;
      read_past = refl;
      read_hidden = refl;
      read_torn = refl;
      read_seen = refl;
      total_cold = refl;
      total_past = refl;
      total_hidden = refl;
      total_torn = refl;
      total_narrow = refl;
      begin_cold = refl;
      begin_past = refl;
      begin_record = refl;
      begin_record_too = refl;
      begin_barred = refl;
      begin_size = refl;
      begin_torn = refl;
      begin_good = refl;
    }

pub every_told : EveryTold
unfolding bad_count bad_widths bad_page bad_job first begin_number right may_write opening marker_of told accepted fed tells
every_told = refl

pub every_shown : EveryShown
unfolding whole_pages base get copy_of bad_count bad_widths bad_page bad_job first read_number right may_write may_see calls.read
every_shown = refl
