-- The printed lines of document 01's whole case, and of units with filler.
use Prim.Native.Nat.{ℕ}
use mathlib.Core.Path.{◌≡◌, refl}
use mathlib.Core.List.{List, [], ◌∷◌, ◌++◌}
use mathlib.Core.Bool.{false}
use Rattle.model.specs.Rights.{service_rights}
use Rattle.model.specs.declared.Plan.{Plan}
use Rattle.model.specs.Layout.{whole_pages, base, get, copy_of}
use Rattle.token.specs.Ascii.{ascii}
use Rattle.text.specs.Text.{digit, hex, bytes_text, digit_at, decimal}
use Rattle.printing.specs.Printed.{numbered, answer_line, listed, unit_text, unit_line}

-- `(plan (2 1))`
abbrev two_units : Plan
two_units = record { count = 2; widths = 2 ∷ 1 ∷ 0 ∷ 0 ∷ 0 ∷ 0 ∷ 0 ∷ 0 ∷ []; page = 1; grouped = false; rights = service_rights }

-- the image at the first `(show)`
abbrev after_cut : List ℕ
after_cut = 2 ∷ 10 ∷ 11 ∷ 0 ∷ 0 ∷ 1 ∷ 0 ∷ 0 ∷ []

pub shown : unit_line two_units after_cut 0 ++ unit_line two_units after_cut 1
    ≡ ascii "(unit 0 (log 02) (a 0a 0b) (b 00 00))\n(unit 1 (log 01) (a 00) (b 00))\n"
unfolding unit_line unit_text listed numbered decimal digit_at bytes_text hex digit get copy_of base whole_pages
shown = refl

-- `(plan (2 1) (page 4))`: filler behind each marker and each copy, all of it other than zero, and none of it shown
abbrev by_pages : Plan
by_pages = record { count = 2; widths = 2 ∷ 1 ∷ 0 ∷ 0 ∷ 0 ∷ 0 ∷ 0 ∷ 0 ∷ []; page = 4; grouped = false; rights = service_rights }

abbrev filled : List ℕ
filled =
    2 ∷ 255 ∷ 254 ∷ 253 ∷ 10 ∷ 11 ∷ 252 ∷ 251 ∷ 12 ∷ 13 ∷ 250 ∷ 249 ∷ 1 ∷ 248 ∷ 247 ∷ 246 ∷ 14 ∷ 245 ∷ 244 ∷ 243 ∷ 15 ∷ 242 ∷ 241 ∷ 240 ∷ []

pub filler_hidden : unit_line by_pages filled 0 ++ unit_line by_pages filled 1
    ≡ ascii "(unit 0 (log 02) (a 0a 0b) (b 0c 0d))\n(unit 1 (log 01) (a 0e) (b 0f))\n"
unfolding unit_line unit_text listed numbered decimal digit_at bytes_text hex digit get copy_of base whole_pages
filler_hidden = refl

pub answered : answer_line (ascii "plan") 0 ++ answer_line (ascii "write") 7 ++ answer_line (ascii "bad") 65536
    ≡ ascii "plan 0\nwrite 7\nbad 65536\n"
unfolding answer_line numbered decimal digit_at digit
answered = refl
