-- The second pass as the code has it: what each of its steps relies on and does.
use Rattle.std.specs.Prelude.{ℕ, List}
use Rattle.symbol.specs.declared.Loc.{Loc}
use Rattle.definitions.specs.Tree.{Tree}
use Rattle.rewrite.specs.declared.Output.{Output}
use Rattle.rewrite.specs.declared.Shared.{Shared}
use Rattle.rewrite.specs.Sheet.{Start, SheetRewritten}
use Rattle.rewrite.specs.Stage.{stage_of}
use Rattle.rewrite.specs.Steps.{NodeShared, TextShared, RootShared, RewriteReady, Rewriter, StoresTexts, PutsStatement}
use Rattle.rewrite.specs.Steps.{at_node, at_sides, at_text}

-- ---- where a step is

abbrev pub AtNode : (s : Shared) (i n : ℕ) → List Tree → Type 0
AtNode s i n texts = NodeShared s.sheet.nodes.words.now s.marks.now.words s.texts.now i n texts

abbrev pub AtText : (s : Shared) (t n : ℕ) → List Tree → Type 0
AtText s t n texts = TextShared s.sheet.nodes.words.now s.marks.now.words s.texts.now t n texts

abbrev pub AtRoot : (s : Shared) (i n : ℕ) → List Tree → Type 0
AtRoot s i n texts = RootShared s.sheet.nodes.words.now s.marks.now.words s.texts.now i n texts

-- rows are left there, and some more
abbrev pub Ready : (s : Shared) (more : ℕ) → (ℕ → List Tree → Type 0) → Output → Type 0
Ready s more At x = RewriteReady s.sheet.nodes.count more At (stage_of x)

abbrev pub NodeReady : (s : Shared) (i : ℕ) → Output → Type 0
NodeReady s i x = Ready s 0 (AtNode s i) x

abbrev pub TextReady : (s : Shared) (t : ℕ) → Output → Type 0
TextReady s t x = Ready s 0 (AtText s t) x

abbrev pub RootReady : (s : Shared) (i : ℕ) → Output → Type 0
RootReady s i x = Ready s 1 (AtRoot s i) x

-- ---- what it does

abbrev pub Stores : (s : Shared) → (ℕ → List Tree → Type 0) → (List Tree → Rewriter) → (x x' : Output) → Type 0
Stores s At f x x' = StoresTexts At f s.sheet.nodes.words.now s.marks.now.words (stage_of x) (stage_of x')

abbrev pub NodeStored : (s : Shared) (i : ℕ) (x x' : Output) → Type 0
NodeStored s i x x' = Stores s (AtNode s i) (at_node s.sheet.nodes.words.now i) x x'

abbrev pub SidesStored : (s : Shared) (i : ℕ) (x x' : Output) → Type 0
SidesStored s i x x' = Stores s (AtNode s i) (at_sides s.sheet.nodes.words.now i) x x'

abbrev pub TextStored : (s : Shared) (t : ℕ) (x x' : Output) → Type 0
TextStored s t x x' = Stores s (AtText s t) (at_text s.sheet.nodes.words.now s.texts.now t) x x'

abbrev pub RootStored : (s : Shared) (place : Loc) (i : ℕ) (x x' : Output) → Type 0
RootStored s place i x x' =
    PutsStatement (AtRoot s i) place i s.sheet.nodes.words.now s.marks.now.words (stage_of x) (stage_of x')

-- ---- the whole sheet

abbrev pub SheetReady : Shared → Output → Type 0
SheetReady s x = Start s.sheet s.marks.now.words s.texts.now x.rows.now

abbrev pub RowsRewritten : Shared → Output → Type 0
RowsRewritten s x = SheetRewritten s.sheet s.marks.now.words s.texts.now x.rows.now x.count
