-- A vector that was looked at counts one, and one more among the wrong if it does not hold.
use Rattle.std.proofs.Common.{refl, rules, arith, ap, false, ◌∙◌, ◌≡◌, ◌<◌, length}
use Rattle.std.proofs.lemmas.List.{length-drop}
use Rattle.vectors.specs.Vectors.{comments_length}
use Rattle.replay.specs.Vector.{one, wrong, vectors_of, next_vector, vector_count, wrong_count}
use Rattle.replay.proofs.Counts.{CountsOne, counts_next, sum_all, wrong_not, wrong_one}
use Rattle.replay.proofs.replay.Goals.{then-not-holds, else-not-holds}
use Rattle.replay.proofs.replay.Goals as goal

pub loop-text-preserved : goal.loop-text-preserved
loop-text-preserved c =
    let text = c.loop-text.text.text.now in
    let rest = c.skip_vector.new.self.text.now in
    let some : 0 < length text = grind (arith, c.loop-text-test.ensures) in
    let next : c.skip_comments-in-loop-text.new.self.text.now ≡ next_vector text =
    c.skip_comments-in-loop-text.ensures ∙ ap vectors_of c.skip_vector.ensures.rest in
    let shorter : length c.skip_comments-in-loop-text.new.self.text.now < length text =
    rw c.skip_comments-in-loop-text.ensures
    (omega (arith, c.skip_vector.ensures.shorter some, length-drop (comments_length false rest) rest)) in
    let counted : CountsOne c.loop-text.t text c.if-not-holds.t = elim c.if-not-holds.branch [
      | then-not-holds w ↦ rw w.t-is (record { count = refl; wrong = wrong_one text _ c.holds.ensures w.if-not-holds.true })
      | else-not-holds w ↦ rw w.t-is (record { count = refl; wrong = wrong_not text _ c.holds.ensures w.if-not-holds.false })
    ] in
    counts_next c.loop-text.invariant some counted next shorter

pub returns : goal.returns
unfolding vector_count wrong_count
returns c =
    let so_far = c.loop-text.invariant in
    let ended : length c.loop-text.text.text.now ≡ 0 = search rules in
    (sum_all one _ so_far.counted ended, sum_all wrong _ so_far.differ ended)
