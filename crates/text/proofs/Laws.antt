-- A text is written piece by piece.
use Rattle.std.proofs.Common.{◌≡◌, ℕ, suc, ◌+◌, ◌<◌, ◌≤◌, List, [], ◌∷◌, ◌++◌, length, get_or, take, set, refl, ap, sym, ◌∙◌, subst, arith, length-append, append_assoc}
use Rattle.std.proofs.Math.Nat.{add-zero}
use Rattle.std.proofs.lemmas.List.{take_more}
use Rattle.std.proofs.lemmas.List.Edits.{sets, sets-eq, paste_all}
use Rattle.std.proofs.lemmas.Slice.{put_mid-paste}
use borrow.Rule.Slice.PartMut.{put_mid}
use Prim.Native.Char.{code}
use Rattle.text.specs.declared.Page.{Page}
use Rattle.text.specs.Text.{hex, bytes_text}
use Rattle.text.specs.Wrote.{Wrote}
use Rattle.text.specs.Appended.{Appended}

sets_append : (xs l : List ℕ) (i : ℕ) (ys : List ℕ) → sets (sets l i xs) (i + length xs) ys ≡ sets l i (xs ++ ys)
sets_append [] l i ys = rw add-zero
sets_append (x ∷ xs) l i ys =
    let e : i + suc (length xs) ≡ suc i + length xs = omega arith in
    rw e (sets_append xs _ (suc i) ys)

pub wrote_none : (l : List ℕ) (i : ℕ) → Wrote l i [] l i
wrote_none l i = record { bytes = refl; place = omega arith }

-- one text, and another at the place past it
pub wrote_then : {l l1 l2 xs ys : List ℕ} {i p q : ℕ} → Wrote l i xs l1 p → Wrote l1 p ys l2 q → Wrote l i (xs ++ ys) l2 q
wrote_then {l} {l1} {l2} {xs} {ys} {i} {p} {q} a b =
    record { bytes = cc (sets_append xs l i ys); place = omega (arith, length-append xs ys) }

pub wrote_as : {l l1 xs ys : List ℕ} {i p : ℕ} → xs ≡ ys → Wrote l i xs l1 p → Wrote l i ys l1 p
wrote_as e a = record { bytes = cc; place = cc (ap length e) }

-- three bytes, one after the other
pub wrote_three : (l : List ℕ) (i x y z : ℕ) → Wrote l i (x ∷ y ∷ z ∷ []) (set (set (set l i x) (i + 1) y) (i + 2) z) (i + 3)
wrote_three l i x y z =
    let next : i + 1 ≡ suc i = omega arith in
    let last : i + 2 ≡ suc (suc i) = omega arith in
    record { bytes = rw (next, last); place = omega arith }

-- what a copy of a text into a part of a buffer leaves
pub copied : (xs ys new : List ℕ) (a k : ℕ) → new ≡ ys → k ≡ length ys → a + length ys ≤ length xs → put_mid a k xs new ≡ sets xs a ys
copied xs ys new a k e n h =
    let pasted = put_mid-paste a k xs new ys (length ys) e (sym n) refl ∙ paste_all xs a ys (length ys) refl in
    let set = rw append_assoc at (sets-eq ys xs a h) in
    pasted ∙ sym set

pub appended_none : (p : Page) → Appended p [] p
appended_none p = record { wrote = wrote_none _ _; same_buffer = refl; size = refl }

-- one text, and another behind it
pub appended_then : {before middle after : Page} {xs ys : List ℕ} → Appended before xs middle → Appended middle ys after
    → Appended before (xs ++ ys) after
appended_then {before} {middle} {after} {xs} {ys} a b =
    record {
      wrote = wrote_then a.wrote b.wrote;
      same_buffer = cc;
      size = cc;
    }

pub appended_as : {before after : Page} {xs ys : List ℕ} → xs ≡ ys → Appended before xs after → Appended before ys after
appended_as {before} {after} e a = subst (λ text. Appended before text after) e a

bytes_snoc : (xs : List ℕ) (b : ℕ) → bytes_text (xs ++ (b ∷ [])) ≡ bytes_text xs ++ (code " " ∷ hex b)
unfolding bytes_text hex
bytes_snoc [] b = refl
bytes_snoc (x ∷ xs) b = rw (bytes_snoc xs b)

-- the bytes so far, and one more
pub bytes_more : (xs : List ℕ) (i : ℕ) → i < length xs
    → bytes_text (take i xs) ++ (code " " ∷ hex (get_or xs i 0)) ≡ bytes_text (take (i + 1) xs)
bytes_more xs i h = sym (bytes_snoc (take i xs) (get_or xs i 0)) ∙ ap bytes_text (sym (take_more xs i 0 h))
