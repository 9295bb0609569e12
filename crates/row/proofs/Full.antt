-- A row that is known to have its 64 entries: none of them is lost, and each is followed by one byte, a space or the bracket.
use Rattle.std.proofs.Common.{◌≡◌, refl, ap, ◌∙◌, arith, ℕ, suc, ◌+◌, ◌-◌, ◌<◌, ◌≤◌, Bool, true, false, cond, ◌&&◌, List, ◌∷◌, eqb, ltb, length, get_or, Option, None, Some, IsSome, eq-eqb, ne_eqb, lt-ltb}
use borrow.Author.Tests.{ltb-true}
use Rattle.model.proofs.Compare.{below, above, order, equal, differ, same}
use Rattle.token.specs.declared.Item.{Item}
use Rattle.token.specs.Token.{lost, item, found, eat_at, entry_at}
use Rattle.token.proofs.Lost.{lost_entry}
use Rattle.list.specs.declared.Items.{Items}
use Rattle.list.specs.List.{ends_at, items_at}
use Rattle.list.specs.Items.{values_at}
use Rattle.list.proofs.Laws.{items_step, items_end, lost_items}
use Rattle.row.specs.Row.{HasEntries}

eaten : (inside same : Bool) (next : ℕ) → ¬ (cond (inside && same) next lost ≡ lost) → (inside ≡ true) × (cond (inside && same) next lost ≡ next)
eaten true true next h = (refl, refl)
eaten true false next h = absurd (h refl)
eaten false same next h = absurd (h refl)

pub eat_there : (line : List ℕ) (at byte : ℕ) → ¬ (eat_at line at byte ≡ lost) → (at < length line) × (eat_at line at byte ≡ at + 1)
unfolding eat_at
eat_there line at byte h =
    let e = eaten (ltb at (length line)) (eqb (get_or line at 0) byte) (at + 1) h in
    (ltb-true at (length line) e.0, e.1)

-- an item of such a row, and what is left of the row behind it
pub record Goes (line : List ℕ) (p j : ℕ) (i : Item) : Type 0 where
  pub inside : i.next < length line
  pub values : values_at entry_at line p (64 - j) ≡ i.value ∷ values_at entry_at line (i.next + 1) (64 - (j + 1))
  pub rest : HasEntries line (i.next + 1) (j + 1)

module _ (line : List ℕ) (fits : length line ≤ lost) where
  none_lost : (most count : ℕ) → (items_at entry_at line lost most count).count ≡ 0
  none_lost most count = ap (λ (list : Items). list.count) (lost_items entry_at line fits (lost_entry line fits) most count)

  pub row_found : (from : ℕ) → HasEntries line from 0 → ¬ (from ≡ lost)
  row_found from has e = absurd (omega (arith, none_lost 64 0, has, ap (λ (p : ℕ). (items_at entry_at line p 64 0).count) e))

  module _ (p j : ℕ) (more : j < 64) (has : HasEntries line p j) (i : Item) (is : i ≡ entry_at line p) where
    stepped : (ends_at (eat_at line i.next 41) (j + 1) (items_at entry_at line (eat_at line i.next 32) (64 - (j + 1)) (j + 1))).count ≡ 64
    stepped = rw is (rw (items_step entry_at line p 64 j more) at (rw (lt-ltb j 64 more) at has))

    first : values_at entry_at line p (64 - j) ≡ i.value ∷ values_at entry_at line (eat_at line i.next 32) (64 - (j + 1))
    unfolding values_at
    first =
        let n : 64 - j ≡ suc (64 - (j + 1)) = omega arith in
        rw (n, is)

    last : ¬ (eat_at line i.next 41 ≡ lost) → Goes line p j i
    unfolding values_at items_at
    last h =
        let there = eat_there line i.next 41 h in
        let n : j + 1 ≡ 64 = rw (ne_eqb (eat_at line i.next 41) lost h) at stepped in
        record {
          inside = there.0;
          values = rw n at first ∙ rw n;
          rest = rw n;
        }

    not_last : eat_at line i.next 41 ≡ lost → Goes line p j i
    not_last e =
        let longer = rw (eq-eqb (eat_at line i.next 41) lost e) at stepped in
        let none = none_lost (64 - (j + 1)) (j + 1) in
        let more' : j + 1 < 64 =
        elim (order (j + 1) 64) [
          | below h ↦ h
          | above h ↦ absurd (omega (arith, longer, ap (λ (list : Items). list.count) (items_end entry_at line (eat_at line i.next 32) 64 (j + 1) h)))
        ] in
        let there = eat_there line i.next 32 (λ q. absurd (omega (arith, longer, none, ap (λ (at : ℕ). (items_at entry_at line at (64 - (j + 1)) (j + 1)).count) q))) in
        record {
          inside = there.0;
          values = rw there.1 at first;
          rest = rw (lt-ltb (j + 1) 64 more') (rw there.1 at longer);
        }

    pub row_on : Goes line p j i
    row_on =
        elim (same (eat_at line i.next 41) lost) [
          | equal e ↦ not_last e
          | differ h ↦ last h
        ]

  -- an entry that such a row has is read
  pub row_reads : (p j : ℕ) → j < 64 → HasEntries line p j → (o : Option Item) → found o ≡ entry_at line p → IsSome o
  row_reads p j more has None e = absurd (omega (arith, (row_on p j more has (item 0 lost) e).inside))
  row_reads p j more has (Some i) e = refl
