-- The depth left falls at each turn.
use Rattle.trees.proofs.Parser.+read_tree.Given as goal

abbrev pub decreases-read_tree : goal.decreases-read_tree
decreases-read_tree l = l.left
