-- What check 3 lets through.
use Rattle.std.specs.Prelude.{◌<◌, ◌≤◌}
use Rattle.limits.specs.Limits.{index_end}
use Rattle.header.specs.declared.Header.{Header}

-- a step and a first temporary that pass check 3
pub record StepInRange (h : Header) : Type 0 where
  pub steps : 0 < h.step
  pub short : h.step ≤ 8
  pub low : h.first < index_end
