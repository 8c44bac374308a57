-- The bytes of s follow those before.
use Rattle.std.proofs.Common.{arith, ◌∙◌}
use Rattle.text.proofs.Texts.{pushed}
use Rattle.text.proofs.Text.push.Goals as goal

pub returns-clause-adds : goal.returns-clause-adds
returns-clause-adds c =
    pushed c.args.self.now c.args.s.now _ c.requires (c.copy_from_slice.ensures.after ∙ c.as_bytes.ensures.value) (omega arith)
