-- What a line of a script says: document 01, 'Bench program'. The words of the document stand in quotes.
use Rattle.std.specs.Prelude.{ℕ, cond, List, length, eqb, Option, None, Some}
use Prim.Native.Char.{code}
use Rattle.token.specs.Ascii.{ascii}
use Rattle.token.specs.declared.Item.{Item}
use Rattle.list.specs.declared.Items.{Items}
use Rattle.token.specs.Token.{eat_at, word_at, hex_at, number_at}
use Rattle.list.specs.List.{list_at}
use Rattle.script.specs.declared.Form.{Form}
use Rattle.script.specs.declared.Form.TheVariants.{Plan, Write, Step, Cut, Wake, Show}

-- "one bracket form a line": the form, if its `)` stands here and ends the line
unfoldable pub closed_at : List ℕ → ℕ → Form → Option Form
closed_at line at form = cond (eqb (eat_at line at (code ")")) (length line)) (Some form) None

infixr 20 ◌or◌
-- the first line that is a form
unfoldable pub ◌or◌ : Option Form → Option Form → Option Form
Some form or other = Some form
None or other = other

-- Ticket 9: "`(plan (2 1) (page 4))`, page a number like W", from the place past the widths on
unfoldable pub paged_at : List ℕ → ℕ → ℕ → ℕ → Option Form
paged_at line past at count =
    let page : Item = number_at line (word_at line past (ascii " (page ")) in
    closed_at line (eat_at line page.next (code ")")) (Plan at count page.value)

-- "`(plan (W ..))` with 0 to 16 widths"; Ticket 9: "No page means p = 1"
unfoldable pub plan_of : List ℕ → Option Form
plan_of line =
    let at : ℕ = word_at line 0 (ascii "(plan (") in
    let widths : Items = list_at number_at line at 16 in
    closed_at line widths.next (Plan at widths.count 1) or paged_at line widths.next at widths.count

-- "`(write U (HH ..))` with 0 to 256 bytes"
unfoldable pub write_of : List ℕ → Option Form
write_of line =
    let unit : Item = number_at line (word_at line 0 (ascii "(write ")) in
    let at : ℕ = word_at line unit.next (ascii " (") in
    let bytes : Items = list_at hex_at line at 256 in
    closed_at line bytes.next (Write unit.value at bytes.count)

-- Ticket 9: "`(cut (HH ..))` with 0 to 16 bytes"
unfoldable pub cut_list_of : List ℕ → Option Form
cut_list_of line =
    let at : ℕ = word_at line 0 (ascii "(cut (") in
    let bytes : Items = list_at hex_at line at 16 in
    closed_at line bytes.next (Cut at bytes.count)

-- "`(step N)`, N 1 to 65535"
unfoldable pub step_of : List ℕ → Option Form
step_of line =
    let count : Item = number_at line (word_at line 0 (ascii "(step ")) in
    cond (eqb count.value 0) None (closed_at line count.next (Step count.value))

-- "`(cut HH)`"; Ticket 9: it "is a cut of one byte", which stands where a list's first would
unfoldable pub cut_of : List ℕ → Option Form
cut_of line =
    let at : ℕ = word_at line 0 (ascii "(cut ") in
    closed_at line (hex_at line at).next (Cut at 1)

-- "`(wake)`; `(show)`"
unfoldable pub bare_of : List ℕ → List ℕ → Form → Option Form
bare_of line word form = closed_at line (word_at line 0 word) form

-- the forms without a list
unfoldable pub short_form_of : List ℕ → Option Form
short_form_of line = step_of line or cut_of line or bare_of line (ascii "(wake") Wake or bare_of line (ascii "(show") Show

-- "Any line that isn't one of these forms prints `bad`"
unfoldable pub form_of : List ℕ → Option Form
form_of line = plan_of line or write_of line or cut_list_of line or short_form_of line
