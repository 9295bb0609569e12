-- The drive over a lent table, by the code's tests.
use Prim.Native.Nat.{ℕ, zero, suc, ◌+◌, ◌*◌, ◌-◌, ◌/◌}
use Rattle.std.specs.Prelude.{Result, Err}
use Rattle.model.specs.declared.refusals.Refusal.{Refusal}
use Rattle.model.specs.declared.refusals.Refusal.TheVariants.{NoRoom}
use Rattle.model.specs.Numbers.{number_of}
use Rattle.model.proofs.Numbered.{number_some}
use mathlib.Core.Path.{◌≡◌, refl, sym, ◌∙◌}
use mathlib.Core.List.{List}
use lib.ListN.{length, get_or}
use borrow.Author.Tests.{eq-eqb, ne_eqb}
use Rattle.model.specs.Drive.{drive_number, drive_unless_refused, drive}
use Rattle.brake.specs.Over.{drive_over_number, drive_over, Answers}

pub refused_drives_0 : (n x : ℕ) → ¬ (n ≡ 0) → 0 ≡ drive_unless_refused n x
refused_drives_0 zero x h = absurd (h refl)
refused_drives_0 (suc n) x h = refl

pub drive_refused : (k l r : ℕ) → k ≡ drive_number l r → ¬ (k ≡ 0) → 0 ≡ drive l r
unfolding drive
drive_refused k l r e h = refused_drives_0 (drive_number l r) _ (λ z. h (e ∙ z))

-- what is refused drives 0
refused : (e : Refusal) (n x : ℕ) → number_of e ≡ n → Answers (Err e) n (drive_unless_refused n x)
refused e n x is = record { number = is; drive = refused_drives_0 n x (λ z. number_some e (is ∙ z)) }

pub refuses : (e : Refusal) (l r : ℕ) → number_of e ≡ drive_number l r → Answers (Err e) (drive_number l r) (drive l r)
unfolding drive
refuses e l r is = refused e _ _ is

module _ (table : List ℕ) (l r : ℕ) where
  abbrev Over : Result ℕ Refusal → Type 0
  Over answer = Answers answer (drive_over_number table l r) (drive_over table l r)

  pub wrong_table : ¬ (length table ≡ 1280) → Over (Err NoRoom)
  unfolding drive_over drive_over_number
  wrong_table h = refused NoRoom _ _ (rw (ne_eqb (length table) 1280 h))

  module _ (fits : length table ≡ 1280) where
    pub over_number : drive_over_number table l r ≡ drive_number l r
    unfolding drive_over_number
    over_number = rw (eq-eqb (length table) 1280 fits)

    pub over_refused : (e : Refusal) → number_of e ≡ drive_number l r → Over (Err e)
    unfolding drive_over
    over_refused e is = refused e _ _ (is ∙ sym over_number)

    pub over_entry : drive_number l r ≡ 0 → drive_over table l r ≡ get_or table (64 * (l - 1) + r / 4) 0
    unfolding drive_over
    over_entry accepted = rw (over_number ∙ accepted)
