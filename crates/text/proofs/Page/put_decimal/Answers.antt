-- `Page::put_decimal` meets its contract: the library's digits are those of `decimal`.
use Rattle.std.proofs.Common.{arith, ◌∙◌, ap, length}
use Rattle.std.proofs.lemmas.Fmt.{length-decimal-le}
use Rattle.text.proofs.Laws.{appended_as}
use Rattle.text.proofs.Decimal.{decimal_is}
use Rattle.text.proofs.Page.put_decimal.Goals as goal

pub put_text-requires : goal.put_text-requires
put_text-requires c = let text = c.as_bytes.ensures.value ∙ c.format.ensures.text in
    omega (arith, ap length text, length-decimal-le 5 c.args.number (omega arith) (omega arith) (omega arith))

pub returns-clause-written : goal.returns-clause-written
returns-clause-written c =
    appended_as (c.as_bytes.ensures.value ∙ c.format.ensures.text ∙ decimal_is _ c.requires.1) c.put_text.ensures

pub returns-clause-size : goal.returns-clause-size
returns-clause-size c = let text = c.as_bytes.ensures.value ∙ c.format.ensures.text in
    omega (arith, ap length text, c.put_text.ensures.wrote.place, length-decimal-le 5 c.args.number (omega arith) (omega arith) (omega arith))
