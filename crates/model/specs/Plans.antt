-- Document 01, 'Plan and image': what a plan says of its units, and what can be wrong with it.
use Rattle.std.specs.Prelude.{ℕ, zero, suc, List, Bool, false, not, ◌||◌, eqb, ltb, get_or}
use Rattle.model.specs.declared.Plan.{Plan}

-- the width of unit u
abbrev pub width : Plan → ℕ → ℕ
width p u = get_or p.widths u 0

-- "1 k is 0 or above 8"
unfoldable pub bad_count : Plan → Bool
bad_count p = eqb p.count 0 || ltb 8 p.count

-- "2 one of the first k widths is 0 or above 256"
unfoldable pub bad_widths : List ℕ → ℕ → Bool
bad_widths widths zero = false
bad_widths widths (suc k) = bad_widths widths k || (eqb (get_or widths k 0) 0 || ltb 256 (get_or widths k 0))

-- Ticket 9: "A plan gains a page size p: 1, 4, 8 or 16."
pub data PageSize : ℕ → Type 0 where
  one : PageSize 1
  four : PageSize 4
  eight : PageSize 8
  sixteen : PageSize 16

-- "17 for another page size"
unfoldable pub bad_page : ℕ → Bool
bad_page page = not (eqb page 1 || (eqb page 4 || (eqb page 8 || eqb page 16)))
