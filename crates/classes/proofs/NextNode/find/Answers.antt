-- The search passes only other trees, and meets a same one if there is any.
use Rattle.std.proofs.Common.{arith, ◌≡◌, ◌+◌, ◌∙◌, sym, suc}
use Rattle.classes.proofs.Linking.{seek_starts, seek_falls, seek_next, class_of_like, linked_like}
use Rattle.classes.proofs.Linking.{class_of_its_own, linked_new}
use Rattle.classes.proofs.NextNode.find.Goals as goal

pub loop-j-init : goal.loop-j-init
loop-j-init c = seek_starts c.args.self.now.next c.requires c.new-search.ensures.at c.new-search.ensures.bits

pub bounds-links-search : goal.bounds-links-search
bounds-links-search c = c.loop-j.invariant.inside

pub bounds-links-search-2 : goal.bounds-links-search-2
bounds-links-search-2 c = c.loop-j.invariant.inside

pub returns-then-is_same_tree-clause-class : goal.returns-then-is_same_tree-clause-class
returns-then-is_same_tree-clause-class c =
    class_of_like c.args.self.now.next c.requires c.loop-j.invariant c.in-Some.ensures
    (sym c.is_same_tree.ensures ∙ c.if-is_same_tree.true)

pub returns-then-is_same_tree-clause-linked : goal.returns-then-is_same_tree-clause-linked
returns-then-is_same_tree-clause-linked c =
    linked_like c.args.self.now.next c.requires c.loop-j.invariant c.in-Some.ensures
    (sym c.is_same_tree.ensures ∙ c.if-is_same_tree.true)

-- another tree is passed
pub loop-j-smaller : goal.loop-j-smaller
loop-j-smaller c =
    seek_falls c.args.self.now.next c.requires c.loop-j.invariant c.in-Some.ensures c.past-search.ensures.at

pub loop-j-preserved : goal.loop-j-preserved
loop-j-preserved c =
    seek_next c.args.self.now.next c.requires c.loop-j.invariant c.in-Some.ensures
    (sym c.is_same_tree.ensures ∙ c.if-is_same_tree.false) c.past-search.ensures.at c.past-search.ensures.bits

pub returns-clause-class : goal.returns-clause-class
returns-clause-class c = class_of_its_own c.args.self.now.next c.requires c.loop-j.invariant c.in_default.ensures

pub returns-clause-linked : goal.returns-clause-linked
returns-clause-linked c =
    let up : c.args.self.now.i + 1 ≡ suc c.args.self.now.i = omega arith in
    rw up (linked_new c.args.self.now.next c.requires c.loop-j.invariant c.in_default.ensures)
