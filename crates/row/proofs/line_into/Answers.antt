-- `row::line_into` meets its contract: the line is known to be good, so its entries are the next row.
use Rattle.std.proofs.Common.{◌≡◌, ◌+◌, ◌*◌, ◌++◌, refl, ap, ◌∙◌, arith, rules, ℕ, List, take, length}
use Rattle.std.proofs.lemmas.Slice.{take-put_mid}
use Rattle.token.specs.Token.{entry_at}
use Rattle.token.specs.Lines.{line_end}
use Rattle.list.proofs.Values.{values_length}
use Rattle.row.specs.Row.{small}
use Rattle.row.proofs.Turn.{rule_small}
use Rattle.row.proofs.Line.{line_inside, line_in_rule, known_head, known_row, known_has}
use Rattle.row.proofs.line_into.Goals as goal

pub find-end-requires : goal.find-end-requires
find-end-requires c = let a = c.args in
    (omega (arith, line_inside a.i a.text.now a.at _ c.requires.2), search rules)

pub unwrap-head-requires : goal.unwrap-head-requires
unfolding line_end
unwrap-head-requires c = let a = c.args in
    known_head a.i a.text.now a.at _ c.requires.2 _ c.find-end.ensures.0 _ c.head.ensures

pub invariant_of-entries : goal.invariant_of-entries
unfolding line_end
invariant_of-entries c = let a = c.args in
    let head = rw c.unwrap-head.ensures at c.head.ensures in
    record { there = known_has a.i a.text.now a.at _ c.requires.2 _ c.find-end.ensures.0 _ head }

pub row_into-requires : goal.row_into-requires
unfolding line_end
row_into-requires c = let a = c.args in
    let done = take (64 * a.i) a.table.now in
    let head = rw c.unwrap-head.ensures at c.head.ensures in
    let row = known_row a.i a.text.now a.at done c.requires.2 _ c.find-end.ensures.0 _ head in
    (search rules, refl, ap small row ∙ rule_small 0 _ _ (line_in_rule a.i a.text.now a.at done c.requires.2))

pub returns : goal.returns
unfolding line_end
returns c = let a = c.args in
    let done = take (64 * a.i) a.table.now in
    let end = c.find-end.ensures.0 in
    let head = rw c.unwrap-head.ensures at c.head.ensures in
    let row = known_row a.i a.text.now a.at done c.requires.2 _ end _ head in
    let size : length c.row_into.new.row ≡ 64 = ap length c.row_into.ensures ∙ values_length entry_at _ _ 64 in (
      ap (λ (n : ℕ). n + 1) end,
      take-put_mid (64 * a.i) _ a.table.now c.row_into.new.row _ (omega arith) (omega arith) ∙ ap (λ (row : List ℕ). done ++ row) (c.row_into.ensures ∙ row),
      search rules,
    )
