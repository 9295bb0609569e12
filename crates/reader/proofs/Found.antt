-- What a caller knows of a form that was read: its line lies in the text from the offset on, and is that form.
use Rattle.std.proofs.Common.{◌≡◌, refl, sym, ap, arith, ℕ, ◌<◌, Bool, true, false, cond, List, ltb, length, Option, Some, None, IfSome}
use Rattle.std.proofs.lemmas.Option.{same_Some}
use borrow.Author.Tests.{ltb-true}
use Rattle.token.specs.Lines.{line_end, line_at}
use Rattle.token.proofs.Lines.{line_inside, line_onward}
use Rattle.script.specs.declared.Form.{Form}
use Rattle.script.specs.Line.{form_of}
use Rattle.reader.specs.declared.Read.{Read}
use Rattle.reader.specs.Read.{read, read_of, read_at}
use Rattle.reader.specs.Found.{Found}

module _ (text : List ℕ) (at : ℕ) (form : Form) (start end : ℕ) where
  found_of : (inside : Bool) (line : Option Form) → ltb at (length text) ≡ inside → form_of (line_at text at) ≡ line
      → cond inside (read_of line at (line_end text at)) None ≡ Some (read form start end) → Found text at (read form start end)
  unfolding read_of line_at
  found_of true (Some f) t l r =
      let i = same_Some (read f at (line_end text at)) (read form start end) r in
      let s : start ≡ at = sym (ap (λ (x : Read). x.start) i) in
      let e : end ≡ line_end text at = sym (ap (λ (x : Read). x.end) i) in
      let g : form ≡ f = sym (ap (λ (x : Read). x.form) i) in
      let h : at < length text = ltb-true _ _ t in
      record { starts = s; inside = h; onward = rw e (line_onward text at); ends = rw e (line_inside text at (omega arith)); says = cc }
  found_of true None t l r = cc
  found_of false line t l r = cc

  read_found_of : read_at text at ≡ Some (read form start end) → Found text at (read form start end)
  unfolding read_at
  read_found_of r = found_of (ltb at (length text)) (form_of (line_at text at)) refl refl r

pub read_found : (text : List ℕ) (at : ℕ) (found : Option Read) → found ≡ read_at text at → IfSome found (λ read. Found text at read)
read_found text at None e = tt
read_found text at (Some r) e = read_found_of text at r.form r.start r.end (sym e)
