-- `group::part_of` meets its contract: the record, a member, the zeros, or no such write.
use native.Mathlib.Omega.{arith}
use lib.ListN.{length, take, drop}
use Prim.Native.Nat.{ℕ, ◌-◌}
use Rattle.group.specs.Parts.{extent}
use Rattle.std.proofs.Common.{rules}
use mathlib.Core.Path.{◌≡◌, refl, ap, sym, ◌∙◌}
use mathlib.Core.List.{[]}
use mathlib.Core.Bool.{true, false}
use Rattle.model.proofs.RefusalLaws.{first_stop}
use Rattle.group.proofs.Record.{reach_small}
use Rattle.group.proofs.Member.{found_as, given_full, standing_full, no_record_lem, members_are, past_last_lem, record_found, zeros_found, member_inside, member_found}
use Rattle.group.proofs.part_of.Goals as goal

pub returns-then-not-stands : goal.returns-then-not-stands
returns-then-not-stands c = let full : length c.args.payload.now ≡ 256 = search rules in
    sym (first_stop 4 _ [] (no_record_lem _ _ _ (given_full _ _ full c.stands.ensures ∙ c.if-not-stands.true)))

pub returns-then-members-write : goal.returns-then-members-write
returns-then-members-write c = let full : length c.args.payload.now ≡ 256 = search rules in
    let a = c.args in
    let v = given_full a.plan a.payload.now full c.stands.ensures ∙ c.if-not-stands.false in
    let s = standing_full a.plan a.payload.now full c.requires v in
    sym (first_stop 4 _ [] (past_last_lem a.plan a.payload.now full v s a.write (omega (arith, members_are a.plan a.payload.now full v s))))

pub returns-then-write-eq0 : goal.returns-then-write-eq0
returns-then-write-eq0 c = let full : length c.args.payload.now ≡ 256 = search rules in
    let a = c.args in
    let v = given_full a.plan a.payload.now full c.stands.ensures ∙ c.if-not-stands.false in
    let s = standing_full a.plan a.payload.now full c.requires v in
    found_as c.if-write-eq0.true (ap (λ u. record { from = 0; unit = u; last = false }) c.last_of-unit.ensures) (record_found a.plan a.payload.now full v s)

pub returns-then-write-members : goal.returns-then-write-members
returns-then-write-members c = let full : length c.args.payload.now ≡ 256 = search rules in
    let a = c.args in
    let v = given_full a.plan a.payload.now full c.stands.ensures ∙ c.if-not-stands.false in
    let s = standing_full a.plan a.payload.now full c.requires v in
    found_as (omega (arith, c.if-write-members.true, members_are a.plan a.payload.now full v s)) (ap (λ u. record { from = 256; unit = u; last = true }) c.last_of-unit.ensures) (zeros_found a.plan a.payload.now full v s)

pub overflow_add-at : goal.overflow_add-at
overflow_add-at c = let full : length c.args.payload.now ≡ 256 = search rules in
    omega (arith, full, reach_small c.args.plan c.args.payload.now _ (c.extent_of-at.ensures ∙ ap (λ (n : ℕ). extent c.args.plan (c.args.write - 1) (take n (drop 1 c.args.payload.now))) {x = 255} {y = length c.args.payload.now - 1} (omega (arith, full))))

pub overflow_add-result : goal.overflow_add-result
overflow_add-result c = let full : length c.args.payload.now ≡ 256 = search rules in
    omega (arith, full, reach_small c.args.plan c.args.payload.now _ (c.extent_of-at.ensures ∙ ap (λ (n : ℕ). extent c.args.plan (c.args.write - 1) (take n (drop 1 c.args.payload.now))) {x = 255} {y = length c.args.payload.now - 1} (omega (arith, full))))

pub bounds-payload-at : goal.bounds-payload-at
bounds-payload-at c = let full : length c.args.payload.now ≡ 256 = search rules in
    let a = c.args in
    let v = given_full a.plan a.payload.now full c.stands.ensures ∙ c.if-not-stands.false in
    let s = standing_full a.plan a.payload.now full c.requires v in
    let m = members_are a.plan a.payload.now full v s in
    omega (arith, full, member_inside a.plan a.payload.now full v s a.write (omega arith) (omega (arith, c.if-write-members.false, c.if-members-write.false)) (c.extent_of-at.ensures ∙ ap (λ (n : ℕ). extent c.args.plan (c.args.write - 1) (take n (drop 1 c.args.payload.now))) {x = 255} {y = length c.args.payload.now - 1} (omega (arith, full))))

pub returns : goal.returns
returns c = let full : length c.args.payload.now ≡ 256 = search rules in
    let a = c.args in
    let v = given_full a.plan a.payload.now full c.stands.ensures ∙ c.if-not-stands.false in
    let s = standing_full a.plan a.payload.now full c.requires v in
    let m = members_are a.plan a.payload.now full v s in
    found_as refl refl (member_found a.plan a.payload.now full v s a.write (omega arith) (omega (arith, c.if-write-members.false, c.if-members-write.false)) (c.extent_of-at.ensures ∙ ap (λ (n : ℕ). extent c.args.plan (c.args.write - 1) (take n (drop 1 c.args.payload.now))) {x = 255} {y = length c.args.payload.now - 1} (omega (arith, full))))
