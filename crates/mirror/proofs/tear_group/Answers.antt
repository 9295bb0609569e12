-- `mirror::tear_group` meets its contract: the write that was found in the payload is torn.
use Rattle.model.specs.declared.Phase.TheVariants.{Grouping}
use Rattle.model.specs.Calls.{view_of}
use Rattle.model.proofs.RefusalLaws.{cut_says, width_bounds}
use Rattle.model.proofs.GroupLaws.{last_lt}
use Rattle.std.proofs.Common.{rules}
use Rattle.group.proofs.Walk.{part_full}
use Rattle.mirror.proofs.Picks.{group_found, group_lies, group_looked, group_picked, group_torn}
use Rattle.mirror.proofs.tear_group.Goals as goal

pub part_of-requires : goal.part_of-requires
part_of-requires c = let a = c.args in
    let ok = (cut_says (view_of a.plan a.payload.now (Grouping a.write a.made) a.image.now) _ c.requires).plan in
    (width_bounds a.plan ok _ (last_lt a.plan ok)).1

pub unwrap-part-requires : goal.unwrap-part-requires
unwrap-part-requires c = let a = c.args in
    group_found a.plan a.payload.now a.write a.made a.image.now a.page.now c.requires c.part_of.result c.part_of.ensures

pub unit_span-span-requires : goal.unit_span-span-requires
unit_span-span-requires c = let a = c.args in
    group_lies a.plan a.payload.now a.write a.made a.image.now a.page.now c.requires _ (rw c.unwrap-part.ensures at c.part_of.ensures)

pub write_choice-requires : goal.write_choice-requires
write_choice-requires c = let a = c.args in
    let found = rw c.unwrap-part.ensures at c.part_of.ensures in
    (group_looked a.plan a.payload.now a.write a.made a.image.now a.page.now c.requires _ found _ c.unit_span-span.ensures).sound

pub unwrap-store-requires : goal.unwrap-store-requires
unwrap-store-requires c = let a = c.args in
    let found = rw c.unwrap-part.ensures at c.part_of.ensures in
    group_picked a.plan a.payload.now a.write a.made a.image.now a.page.now c.requires _ found _ c.unit_span-span.ensures _ (part_full a.payload.now 256 c.unwrap-part.result.from (search rules)) _ c.write_choice.ensures

pub tear_at-requires : goal.tear_at-requires
tear_at-requires c = let a = c.args in
    let found = rw c.unwrap-part.ensures at c.part_of.ensures in
    let l = group_looked a.plan a.payload.now a.write a.made a.image.now a.page.now c.requires _ found _ c.unit_span-span.ensures in
    let t = group_torn a.plan a.payload.now a.write a.made a.image.now a.page.now c.requires _ found _ c.unit_span-span.ensures _ (part_full a.payload.now 256 c.unwrap-part.result.from (search rules)) _ (rw c.unwrap-store.ensures at c.write_choice.ensures) in
    (l.sound, l.size, t.inside, l.ends)

pub returns : goal.returns
returns c = let a = c.args in
    let found = rw c.unwrap-part.ensures at c.part_of.ensures in
    (group_torn a.plan a.payload.now a.write a.made a.image.now a.page.now c.requires _ found _ c.unit_span-span.ensures _ (part_full a.payload.now 256 c.unwrap-part.result.from (search rules)) _ (rw c.unwrap-store.ensures at c.write_choice.ensures)
    ).torn _ c.tear_at.ensures
