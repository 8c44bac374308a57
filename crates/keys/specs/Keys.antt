-- The mix of a tree as its marks show it, whatever places the temporaries have.
use Rattle.std.specs.Prelude.{◌≡◌, ℕ, zero, suc, ◌≤◌, cond, List, get_or}
use Rattle.limits.specs.Limits.{temporary_limit}
use Rattle.symbol.specs.declared.Loc.{Loc}
use Rattle.symbol.specs.Place.{same_place}
use Rattle.definitions.specs.Tree.{Tree}
use Rattle.node.specs.Nodes.{end_at}
use Rattle.node.specs.Views.{seen, view, Fresh}
use Rattle.mix.specs.Mix.{variable_mix, temporary_mix, mix_by}

-- a place's mix: of one of the first temporaries by its number, of another place by itself
unfoldable pub place_mix : (temporary : ℕ → Loc) (count : ℕ) → Loc → ℕ
place_mix temporary zero p = variable_mix p
place_mix temporary (suc k) p = cond (same_place p (temporary k)) (temporary_mix k) (place_mix temporary k p)

abbrev pub tree_mix : (temporary : ℕ → Loc) → Tree → ℕ
tree_mix temporary t = mix_by (place_mix temporary temporary_limit) t

-- marks of temporaries that there can be
abbrev pub MarksLow : (ms : List ℕ) → Type 0
MarksLow ms = (j : ℕ) → get_or ms j 0 ≤ temporary_limit

-- r is the mix of a tree that ends among nodes of which no variable is a temporary
abbrev pub MixOf : (shown : (temporary : ℕ → Loc) → Tree) (ws : List ℕ) (i r : ℕ) → Type 0
MixOf shown ws i r = (temporary : ℕ → Loc) (n : ℕ) → Fresh temporary ws n → end_at ws i ≤ n →
    r ≡ tree_mix temporary (shown temporary)

-- of a node without its own mark, and with it
abbrev pub SeenMix : (ws ms : List ℕ) (i r : ℕ) → Type 0
SeenMix ws ms i r = MixOf (λ temporary. seen temporary ws ms i) ws i r

abbrev pub ViewMix : (ws ms : List ℕ) (i r : ℕ) → Type 0
ViewMix ws ms i r = MixOf (λ temporary. view temporary ws ms i) ws i r
