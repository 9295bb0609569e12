-- A line's form, by the code's own tests on what it read.
use Rattle.std.proofs.Common.{◌≡◌, refl, ap, sym, ◌∙◌, ℕ, ◌≤◌, Bool, true, false, cond, ◌&&◌, List, eqb, length, eq-eqb}
use Prim.Native.Char.{code}
use borrow.Author.Tests.{eqb-true}
use Rattle.token.specs.Ascii.{ascii}
use Rattle.token.specs.declared.Item.{Item}
use Rattle.token.specs.Token.{lost, item, eat_at, word_at, entry_at}
use Rattle.token.proofs.Lost.{lost_word, lost_entry}
use Rattle.list.specs.declared.Items.{Items}
use Rattle.list.specs.List.{items_at}
use Rattle.row.specs.Row.{head_at, row_at, HasEntries}

-- ---- what stands before the entries
module _ (line : List ℕ) (fits : length line ≤ lost) where
  pub level_lost : entry_at line (word_at line 0 (ascii "(level ")) ≡ item 0 lost → (head_at line).next ≡ lost
  level_lost e = ap (λ (level : Item). word_at line level.next (ascii " (")) e ∙ lost_word line fits (ascii " (")

  pub head_lost : word_at line 0 (ascii "(level ") ≡ lost → (head_at line).next ≡ lost
  head_lost e = level_lost (ap (entry_at line) e ∙ lost_entry line fits)

-- ---- what the code read of a line
module _ (l : ℕ) (line : List ℕ) (head : Item) (row : Items) (end : ℕ)
    (eh : head ≡ head_at line) (er : row ≡ items_at entry_at line head.next 64 0) (ee : end ≡ eat_at line row.next (code ")")) where
  judged : row_at l line ≡ cond (eqb head.value l && eqb row.count 64 && eqb end (length line)) head.next lost
  unfolding row_at
  judged = rw (ee, er, eh)

  pub of_form : head.value ≡ l → row.count ≡ 64 → end ≡ length line → head.next ≡ row_at l line
  of_form is full e = sym (judged ∙ rw (eq-eqb head.value l is, eq-eqb row.count 64 full, eq-eqb end (length line) e))

  pub other_form : (head.value ≡ l → row.count ≡ 64 → end ≡ length line → ⊥) → lost ≡ row_at l line
  other_form h = sym (judged ∙ none (eqb head.value l) (eqb row.count 64) (eqb end (length line))
      (λ x y z. h (eqb-true head.value l x) (eqb-true row.count 64 y) (eqb-true end (length line) z)))
    where
      none : (x y z : Bool) → (x ≡ true → y ≡ true → z ≡ true → ⊥) → cond (x && y && z) head.next lost ≡ lost
      none true true true h = absurd (h refl refl refl)
      none true true false h = refl
      none true false z h = refl
      none false y z h = refl

-- ---- a line that is known to be of the form
pub formed : (l : ℕ) (line : List ℕ) → ¬ (row_at l line ≡ lost) → (row_at l line ≡ (head_at line).next) × HasEntries line (head_at line).next 0
unfolding row_at
formed l line h =
    let row : Items = items_at entry_at line (head_at line).next 64 0 in
    go (eqb (head_at line).value l) (eqb row.count 64) (eqb (eat_at line row.next (code ")")) (length line)) refl h
  where
    go : (x y z : Bool) → y ≡ eqb (items_at entry_at line (head_at line).next 64 0).count 64 → ¬ (cond (x && y && z) (head_at line).next lost ≡ lost)
        → (cond (x && y && z) (head_at line).next lost ≡ (head_at line).next) × HasEntries line (head_at line).next 0
    go true true true e h = (refl, eqb-true (items_at entry_at line (head_at line).next 64 0).count 64 (sym e))
    go true true false e h = absurd (h refl)
    go true false z e h = absurd (h refl)
    go false y z e h = absurd (h refl)
