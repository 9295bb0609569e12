-- Rows of entries and whether they are in rule, some under each sentence of Ticket 1, computed from the definition in
-- proofs/Cases.antt.
use Rattle.std.specs.Prelude.{ℕ, ◌≡◌, Bool, true, false, List, [], ◌∷◌, map}
use Rattle.row.specs.Row.{in_rule}

-- the level below a row, the row, and whether it is in rule
abbrev Ruled : Type 0
Ruled = List ℕ × List ℕ × Bool

abbrev Every : List Ruled → Type 0
Every rows =
    map {A = Ruled} {B = Bool} (λ row. in_rule 0 row.0 row.1) rows ≡ map {A = Ruled} {B = Bool} (λ row. row.2) rows

-- "Every entry is at most 4,095"
abbrev pub EverySmall : Type 0
EverySmall =
    Every
    (([], 0 ∷ 4095 ∷ [], true)
    ∷ ([], 0 ∷ 4096 ∷ [], false)
    ∷ ([], 4096 ∷ 4096 ∷ [], false)
    ∷ (4094 ∷ 4095 ∷ [], 4095 ∷ 4096 ∷ [], false)
    ∷ [])

-- "no line ever falls"
abbrev pub EveryRising : Type 0
EveryRising =
    Every
    (([], 5 ∷ 5 ∷ 6 ∷ [], true)
    ∷ ([], 5 ∷ 4 ∷ 6 ∷ [], false)
    ∷ ([], 5 ∷ 6 ∷ 5 ∷ [], false)
    ∷ (1 ∷ 1 ∷ 1 ∷ [], 3 ∷ 2 ∷ 3 ∷ [], false)
    ∷ [])

-- "each entry is above the same bin one level lower"
abbrev pub EveryAbove : Type 0
EveryAbove =
    Every
    ((5 ∷ 6 ∷ 7 ∷ [], 6 ∷ 7 ∷ 8 ∷ [], true)
    ∷ (5 ∷ 6 ∷ 7 ∷ [], 5 ∷ 7 ∷ 8 ∷ [], false)
    ∷ (5 ∷ 6 ∷ 7 ∷ [], 6 ∷ 6 ∷ 8 ∷ [], false)
    ∷ (5 ∷ 6 ∷ 7 ∷ [], 6 ∷ 7 ∷ 7 ∷ [], false)
    ∷ [])

-- the same, of level 1: it has none below it
abbrev pub EveryFirst : Type 0
EveryFirst = Every (([], 0 ∷ 0 ∷ [], true) ∷ (0 ∷ 0 ∷ [], 0 ∷ 0 ∷ [], false) ∷ (0 ∷ 0 ∷ [], 1 ∷ 1 ∷ [], true) ∷ [])
