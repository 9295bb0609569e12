-- A caller's laws: how many items the list of a form has, on every line.
use Rattle.std.proofs.Common.{◌≡◌, arith, ℕ, zero, suc, ◌+◌, ◌≤◌, Bool, true, false, cond, List, length, eqb, Option, Some, None}
use Prim.Native.Char.{code}
use Rattle.token.specs.Ascii.{ascii}
use Rattle.token.specs.declared.Item.{Item}
use Rattle.list.specs.declared.Items.{Items}
use Rattle.script.specs.declared.Form.{Form}
use Rattle.script.specs.declared.Form.TheVariants.{Plan, Write, Step, Cut, Wake, Show}
use Rattle.token.specs.Token.{lost, eat_at, word_at, hex_at, number_at}
use Rattle.list.specs.List.{items, ends_at, items_at, list_at}
use Rattle.script.specs.Line.{closed_at, ◌or◌, paged_at, plan_of, write_of, cut_list_of, step_of, cut_of, bare_of, short_form_of, form_of}

-- "0 to 16 widths", "0 to 256 bytes", a cut's "0 to 16 bytes"
abbrev Counted : Option Form → Type 0
Counted (Some (Plan at count page)) = count ≤ 16
Counted (Some (Write unit at count)) = count ≤ 256
Counted (Some (Step count)) = Unit {0}
Counted (Some (Cut at count)) = count ≤ 16
Counted (Some Wake) = Unit {0}
Counted (Some Show) = Unit {0}
Counted None = Unit {0}

-- what both lists keep, the chosen one keeps; and so for lines below
either : (most : ℕ) (test : Bool) (x y : Items) → x.count ≤ most → y.count ≤ most → (cond test x y).count ≤ most
either most true x y p q = p
either most false x y p q = q

items_counted : (reads : List ℕ → ℕ → Item) (line : List ℕ) (at most count : ℕ) → (items_at reads line at most count).count ≤ most + count
unfolding items_at
items_counted reads line at zero count = omega arith
items_counted reads line at (suc most) count =
    let past : ℕ = (reads line at).next in
    let end : ℕ = eat_at line past (code ")") in
    let l = items_counted reads line (eat_at line past (code " ")) most (count + 1) in
    either (suc most + count) (eqb end lost) _ (items (count + 1) end) (omega (arith, l)) (omega arith)

list_counted : (reads : List ℕ → ℕ → Item) (line : List ℕ) (at most : ℕ) → (list_at reads line at most).count ≤ most
unfolding list_at
list_counted reads line at most =
    let end : ℕ = eat_at line at (code ")") in
    let longer : Items = items_at reads line at most 0 in
    let l = items_counted reads line at most 0 in
    either most (eqb at lost) (items 0 lost) (ends_at end 0 longer) (omega arith) (either most (eqb end lost) longer (items 0 end) (omega (arith, l)) (omega arith))

chosen_counted : (test : Bool) (x y : Option Form) → Counted x → Counted y → Counted (cond test x y)
chosen_counted true x y p q = p
chosen_counted false x y p q = q

closed_counted : (line : List ℕ) (at : ℕ) (form : Form) → Counted (Some form) → Counted (closed_at line at form)
unfolding closed_at
closed_counted line at form h = chosen_counted (eqb (eat_at line at (code ")")) (length line)) (Some form) None h tt

or_counted : (first other : Option Form) → Counted first → Counted other → Counted (first or other)
unfolding ◌or◌
or_counted (Some form) other f o = f
or_counted None other f o = o

paged_counted : (line : List ℕ) (past at count : ℕ) → count ≤ 16 → Counted (paged_at line past at count)
unfolding paged_at
paged_counted line past at count few = closed_counted line _ _ few

plan_counted : (line : List ℕ) → Counted (plan_of line)
unfolding plan_of
plan_counted line =
    let few = list_counted number_at line (word_at line 0 (ascii "(plan (")) 16 in
    or_counted _ _ (closed_counted line _ _ few) (paged_counted line _ _ _ few)

write_counted : (line : List ℕ) → Counted (write_of line)
unfolding write_of
write_counted line = closed_counted line _ _ (list_counted hex_at line _ 256)

cut_list_counted : (line : List ℕ) → Counted (cut_list_of line)
unfolding cut_list_of
cut_list_counted line = closed_counted line _ _ (list_counted hex_at line _ 16)

step_counted : (line : List ℕ) → Counted (step_of line)
unfolding step_of
step_counted line =
    let count : Item = number_at line (word_at line 0 (ascii "(step ")) in
    chosen_counted (eqb count.value 0) None _ tt (closed_counted line count.next (Step count.value) tt)

cut_counted : (line : List ℕ) → Counted (cut_of line)
unfolding cut_of
cut_counted line = closed_counted line _ _ (omega arith)

counted : (line : List ℕ) → Counted (form_of line)
unfolding form_of short_form_of bare_of
counted line =
    or_counted _ _ (plan_counted line) (or_counted _ _ (write_counted line) (or_counted _ _ (cut_list_counted line) (or_counted _ _ (step_counted line)
    (or_counted _ _ (cut_counted line) (or_counted _ _ (closed_counted line _ Wake tt) (closed_counted line _ Show tt))))))

pub plan_count : (line : List ℕ) (at count page : ℕ) → form_of line ≡ Some (Plan at count page) → count ≤ 16
plan_count line at count page e = rw e at (counted line)

pub write_count : (line : List ℕ) (unit at count : ℕ) → form_of line ≡ Some (Write unit at count) → count ≤ 256
write_count line unit at count e = rw e at (counted line)

pub cut_count : (line : List ℕ) (at count : ℕ) → form_of line ≡ Some (Cut at count) → count ≤ 16
cut_count line at count e = rw e at (counted line)
