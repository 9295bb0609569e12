-- `mirror::tear_on` meets its contract: by the phase's case: the torn page is the model's.
use mathlib.Core.Path.{◌≡◌, ap, sym, subst, ◌∙◌}
use mathlib.Core.Logic.{inl, inr}
use Rattle.model.specs.declared.Phase.{Phase}
use Rattle.model.specs.Calls.{next, view_of}
use Rattle.model.specs.Refusals.{cut_number}
use Rattle.model.specs.Stores.{stored}
use Rattle.model.specs.Marker.{torn_by}
use lib.ListN.{length}
use Rattle.mirror.proofs.Picks.{none_torn, write_lies, write_looked, write_picked, write_torn, clean_lies, clean_looked, clean_picked, clean_torn}
use Rattle.mirror.proofs.tear_on.Goals as goal

pub unit_span-span-requires : goal.unit_span-span-requires
unit_span-span-requires c = let a = c.args in
    write_lies a.plan a.payload.now a.phase a.image.now a.page.now c.requires _ _ c.in-Writing.is

pub write_choice-requires : goal.write_choice-requires
write_choice-requires c = let a = c.args in
    (write_looked a.plan a.payload.now a.phase a.image.now a.page.now c.requires _ _ c.in-Writing.is _ c.unit_span-span.ensures).sound

pub unwrap-store-requires : goal.unwrap-store-requires
unwrap-store-requires c = let a = c.args in
    write_picked a.plan a.payload.now a.phase a.image.now a.page.now c.requires _ _ c.in-Writing.is _ c.unit_span-span.ensures _ c.write_choice.ensures

pub unit_span-span-requires-in-Recovering : goal.unit_span-span-requires-in-Recovering
unit_span-span-requires-in-Recovering c = let a = c.args in
    clean_lies a.plan a.payload.now a.phase a.image.now a.page.now c.requires _ _ _ c.in-Recovering.is

pub clean_choice-requires : goal.clean_choice-requires
clean_choice-requires c = let a = c.args in
    let l = clean_looked a.plan a.payload.now a.phase a.image.now a.page.now c.requires _ _ _ c.in-Recovering.is _ c.unit_span-span-in-Recovering.ensures in
    (l.sound, l.ends)

pub unwrap-copied-requires : goal.unwrap-copied-requires
unwrap-copied-requires c = let a = c.args in
    clean_picked a.plan a.payload.now a.phase a.image.now a.page.now c.requires _ _ _ c.in-Recovering.is _ c.unit_span-span-in-Recovering.ensures _ c.clean_choice.ensures

pub tear_group-requires : goal.tear_group-requires
tear_group-requires c = let a = c.args in
    subst (λ (f : Phase). cut_number (view_of a.plan a.payload.now f a.image.now) (length a.page.now) ≡ 0) c.in-Grouping.is c.requires

pub returns-in-Cold : goal.returns-in-Cold
unfolding next
returns-in-Cold c = let a = c.args in
    none_torn a.plan a.payload.now a.phase a.image.now a.page.now (elim c.in-Cold.is [ inl e ↦ rw e | inr e ↦ rw e ])

pub tear_at-requires : goal.tear_at-requires
tear_at-requires c = let a = c.args in
    let l = write_looked a.plan a.payload.now a.phase a.image.now a.page.now c.requires _ _ c.in-Writing.is _ c.unit_span-span.ensures in
    let t = write_torn a.plan a.payload.now a.phase a.image.now a.page.now c.requires _ _ c.in-Writing.is _ c.unit_span-span.ensures _ (rw c.unwrap-store.ensures at c.write_choice.ensures) in
    (l.sound, l.size, t.inside, l.ends)

pub tear_at-requires-in-Recovering : goal.tear_at-requires-in-Recovering
tear_at-requires-in-Recovering c = let a = c.args in
    let l = clean_looked a.plan a.payload.now a.phase a.image.now a.page.now c.requires _ _ _ c.in-Recovering.is _ c.unit_span-span-in-Recovering.ensures in
    let t = clean_torn a.plan a.payload.now a.phase a.image.now a.page.now c.requires _ _ _ c.in-Recovering.is _ c.unit_span-span-in-Recovering.ensures _ (rw c.unwrap-copied.ensures at c.clean_choice.ensures) in
    (l.sound, l.size, t.inside, l.ends)

pub returns-in-Writing : goal.returns-in-Writing
returns-in-Writing c = let a = c.args in
    (write_torn a.plan a.payload.now a.phase a.image.now a.page.now c.requires _ _ c.in-Writing.is _ c.unit_span-span.ensures _ (rw c.unwrap-store.ensures at c.write_choice.ensures)
    ).torn _ c.tear_at.ensures

pub returns-in-Recovering : goal.returns-in-Recovering
returns-in-Recovering c = let a = c.args in
    (clean_torn a.plan a.payload.now a.phase a.image.now a.page.now c.requires _ _ _ c.in-Recovering.is _ c.unit_span-span-in-Recovering.ensures _ (rw c.unwrap-copied.ensures at c.clean_choice.ensures)
    ).torn _ c.tear_at-in-Recovering.ensures

pub returns-in-Grouping : goal.returns-in-Grouping
returns-in-Grouping c = let a = c.args in
    c.tear_group.ensures ∙ ap (λ (f : Phase). stored a.plan a.image.now (torn_by a.page.now) (next a.plan a.payload.now a.image.now f)) (sym c.in-Grouping.is)
