-- How rewritings follow one another: what a node, its sides, a text and a statement store and put out. Assumes nothing.
use mathlib.Core.Path.{◌≡◌, refl, sym, ap, ap₂, ◌∙◌}
use mathlib.Core.Bool.{false}
use mathlib.Core.List.{List, [], ◌∷◌, ◌++◌, append_assoc, append-nil}
use Prim.Native.Nat.{ℕ, ◌+◌, ◌-◌, ◌<◌, ◌≤◌}
use native.Mathlib.Omega.{arith}
use lib.ListN.{length, get_or}
use Rattle.limits.specs.Limits.{depth_limit, node_limit}
use Rattle.symbol.specs.declared.Loc.{Loc}
use Rattle.operation.specs.declared.One.{One}
use Rattle.operation.specs.declared.Two.{Two}
use Rattle.definitions.specs.Tree.{Tree, depth}
use Rattle.definitions.specs.Statement.{Statement, assign}
use Rattle.definitions.specs.Eliminate.{Found, nowhere, found, find, holds, Rewritten, kept, meets, rewrite}
use Rattle.node.specs.declared.Node.{Node}
use Rattle.node.specs.declared.Node.TheVariants.{Unary as UnaryNode, Binary as BinaryNode}
use Rattle.node.specs.Nodes.{node_at, node_tree, tree, Lies}
use Rattle.node.specs.Views.{view, Marked}
use Rattle.node.proofs.Nodes.{tree_depth, unpacked_tree, table_sides}
use Rattle.node.proofs.Views.{view_unmarked, view_marked}
use Rattle.statement.specs.declared.Row.{Row}
use Rattle.statement.specs.declared.Row.TheVariants.{Given, Copied, Kept}
use Rattle.statement.specs.Rows.{RoomFor, row_statement, statements_of}
use Rattle.statement.specs.Rowing.{spend}
use Rattle.statement.proofs.RowsPut.{rows_put, put_length, statements_append}
use Rattle.rewrite.specs.Stage.{Stage, put, flag, rows_of, Flagged, pledged, RowShared, RootIs}
use Rattle.rewrite.specs.Steps.{NodeShared, TextShared, RootShared, Rewriter, inside, at_node, at_sides, at_text}
use Rattle.rewrite.specs.Steps.{Puts, TextsStored, StatementPut}
use Rattle.rewrite.proofs.Flags.{unset_set, flagged_set}
use Rattle.statement.proofs.RowsSpent.{rows_spend, put_spends}
use Rattle.rewrite.proofs.Tidying.{added_none, added_then, added_text, added_statement}
use Rattle.rewrite.proofs.Marks.{unmarked_finds, marked_finds, rewritten_is_view, inside_is_seen, rewrite_meets, rewrite_enough}

module _ {n : ℕ} {texts : List Tree} {ws sh : List ℕ} {p : Stage} where
  -- a rewriting that stores what another does
  rewrote_as : {p' : Stage} {f g : Rewriter} →
      ((T : ℕ → Loc) (st : List ℕ) → ((g T st).stored ≡ (f T st).stored) × ((g T st).before ≡ (f T st).before)) →
      TextsStored n texts ws sh p p' f → TextsStored n texts ws sh p p' g
  rewrote_as e x =
      record {
        flags = x.flags;
        rows = x.rows;
        room = x.room;
        added = x.added;
        puts = λ T st h.
            let q = x.puts T st h in
            record { stored = rw (e T st).0 q.stored; rows = rw (e T st).1 q.rows };
      }

  rewrote_equal : {p' : Stage} {f g : Rewriter} → ((T : ℕ → Loc) (st : List ℕ) → g T st ≡ f T st) →
      TextsStored n texts ws sh p p' f → TextsStored n texts ws sh p p' g
  rewrote_equal e x = rewrote_as (λ T st. (ap (λ (y : Rewritten). y.stored) (e T st), ap (λ (y : Rewritten). y.before) (e T st))) x

  -- one that stores nothing
  rewrote_none : {f : Rewriter} → length p.flags ≡ node_limit →
      ((T : ℕ → Loc) (st : List ℕ) → Flagged p.flags st → ((f T st).stored ≡ st) × ((f T st).before ≡ [])) →
      TextsStored n texts ws sh p p f
  rewrote_none l e =
      record {
        flags = l;
        rows = refl;
        room = omega arith;
        added = added_none;
        puts = λ T st h.
            record {
              stored = rw (e T st h).0 h;
              rows = rw (e T st h).1 (sym (append-nil (statements_of T ws sh (rows_of p))));
            };
      }

-- a row more, which says what the rewriting y stores after x
row_put : {T : ℕ → Loc} {ws sh : List ℕ} {rs : List Row} {x y : Rewritten} (p : Stage) (r : Row) →
    RoomFor p.rows (p.count + 1) → y.stored ≡ x.stored → y.before ≡ x.before ++ (row_statement T ws sh r ∷ []) →
    Puts T ws sh rs p x → Puts T ws sh rs (put p r) y
unfolding statements_of
row_put {T} {ws} {sh} {rs} {x} p r h e g q =
    let before = statements_of T ws sh rs in
    let last = row_statement T ws sh r ∷ [] in
    record {
      stored = rw e q.stored;
      rows = ap (statements_of T ws sh) (rows_put p.rows p.count r h)
          ∙ statements_append T ws sh (rows_of p) (r ∷ [])
          ∙ ap (λ (l : List Statement). l ++ last) q.rows
          ∙ append_assoc before x.before last
          ∙ ap (λ (l : List Statement). before ++ l) (sym g);
    }

-- ---- a node, whose mark m is 0, or one more than its text's number t

pub unmarked_by : {m : ℕ} → (1 ≤ m → ⊥) → m ≡ 0
unmarked_by {m} h = omega (arith, h)

pub marked_by : {m t : ℕ} → (1 ≤ m) × (t ≡ m - 1) → (m ≡ 0 → ⊥) × (t ≡ m - 1)
marked_by h = (λ z. omega (arith, h.0), h.1)

module _ {ws sh tx : List ℕ} {i n : ℕ} {texts : List Tree} (a : NodeShared ws sh tx i n texts) where
  node_depth : depth (tree ws i) ≤ depth_limit
  node_depth = tree_depth ws i (a.shared.table.laid i a.below)

  -- the text that a mark gives a node
  pub node_text : Marked sh i → TextShared ws sh tx (get_or sh i 0 - 1) n texts
  node_text k =
      let g = marked_finds a.shared i a.below k in
      record { shared = a.shared; below = g.below; mark = omega (arith, g.mark, k) }

  pub node_text_depth : Marked sh i → depth (tree ws (get_or tx (get_or sh i 0 - 1) 0)) ≡ depth (tree ws i)
  node_text_depth k = (marked_finds a.shared i a.below k).deep

  module _ {p p' : Stage} where
    node_by : (v : Found) → find 0 texts (tree ws i) ≡ v →
        TextsStored n texts ws sh p p' (λ T st. meets texts T v st (tree ws i) (inside texts T)) →
        TextsStored n texts ws sh p p' (at_node ws i texts)
    node_by v e x =
        rewrote_equal
        (λ T st.
        rewrite_meets texts T (tree ws i) node_depth st ∙ ap (λ (f : Found). meets texts T f st (tree ws i) (inside texts T)) e)
        x

    pub node_unmarked : get_or sh i 0 ≡ 0 → TextsStored n texts ws sh p p' (at_sides ws i texts) →
        TextsStored n texts ws sh p p' (at_node ws i texts)
    node_unmarked z x = node_by nowhere (unmarked_finds a.shared i a.below z) x

    pub node_marked : Marked sh i → TextsStored n texts ws sh p p' (at_text ws tx (get_or sh i 0 - 1) texts) →
        TextsStored n texts ws sh p p' (at_node ws i texts)
    node_marked k x = node_by (found _ _) (marked_finds a.shared i a.below k).finds x

-- ---- the sides of a node

module _ {ws sh tx : List ℕ} {i n : ℕ} {texts : List Tree} (a : NodeShared ws sh tx i n texts) {r : Node} (u : r ≡ node_at ws i) where
  node_tree_lem : {m : Node} → r ≡ m → tree ws i ≡ node_tree (tree ws) i m
  node_tree_lem {m} e = unpacked_tree ws i r m u e (a.shared.table.laid i a.below)

  node_sides : {m : Node} → r ≡ m → Lies (λ j. (i < j) × (j < n)) ws i m
  node_sides e = rw (← u, e) at (table_sides ws n a.shared.table i a.below)

  -- a node below this one
  abbrev SideShared : ℕ → Type 0
  SideShared j = NodeShared ws sh tx j n texts × (depth (tree ws j) < depth (tree ws i))

  side_by : {m : Node} {j : ℕ} → r ≡ m → j < n → depth (tree ws j) < depth (node_tree (tree ws) i m) → SideShared j
  side_by e h d = (record { shared = a.shared; below = h }, rw (node_tree_lem e) d)

  pub side_one : {o : One} → r ≡ UnaryNode o → SideShared (i + 1)
  unfolding depth
  side_one e = side_by e (node_sides e).0.1 (omega arith)

  pub side_left : {o : Two} {right : ℕ} → r ≡ BinaryNode o right → SideShared (i + 1)
  unfolding depth
  side_left e = side_by e (node_sides e).0.1 (omega arith)

  pub side_right : {o : Two} {right : ℕ} → r ≡ BinaryNode o right → SideShared right
  unfolding depth
  side_right e = side_by e (node_sides e).1.1 (omega arith)

  module _ {p : Stage} where
    sides_by_lem : {t : Tree} {p' : Stage} → tree ws i ≡ t → TextsStored n texts ws sh p p' (λ T st. inside texts T st t) →
        TextsStored n texts ws sh p p' (at_sides ws i texts)
    sides_by_lem e x = rewrote_equal (λ T st. ap (inside texts T st) e) x

    pub sides_leaf : {m : Node} → r ≡ m →
        ((T : ℕ → Loc) (st : List ℕ) → inside texts T st (node_tree (tree ws) i m) ≡ kept st (node_tree (tree ws) i m)) →
        length p.flags ≡ node_limit → TextsStored n texts ws sh p p (at_sides ws i texts)
    sides_leaf e f l =
        sides_by_lem (node_tree_lem e)
        (rewrote_none l
        (λ T st h. (ap (λ (y : Rewritten). y.stored) (f T st), ap (λ (y : Rewritten). y.before) (f T st))))

    pub sides_one : {o : One} → r ≡ UnaryNode o → {p' : Stage} → TextsStored n texts ws sh p p' (at_node ws (i + 1) texts) →
        TextsStored n texts ws sh p p' (at_sides ws i texts)
    sides_one e x = sides_by_lem (node_tree_lem e) (rewrote_as (λ T st. (refl, refl)) x)

    -- left before right
    pub sides_two : {o : Two} {right : ℕ} → r ≡ BinaryNode o right → {p' p'' : Stage} →
        TextsStored n texts ws sh p p' (at_node ws (i + 1) texts) → TextsStored n texts ws sh p' p'' (at_node ws right texts) →
        TextsStored n texts ws sh p p'' (at_sides ws i texts)
    sides_two {right = right} e x y =
        sides_by_lem (node_tree_lem e)
        record {
          flags = y.flags;
          rows = y.rows ∙ x.rows;
          room = omega (arith, x.room, y.room);
          added = added_then x.added y.added;
          puts = λ T st h.
              let v = rewrite texts T depth_limit st (tree ws (i + 1)) in
              let w = rewrite texts T depth_limit v.stored (tree ws right) in
              let left = x.puts T st h in
              let rest = y.puts T v.stored left.stored in
              record {
                stored = rest.stored;
                rows = rest.rows ∙ ap (λ (l : List Statement). l ++ w.before) left.rows
                    ∙ append_assoc (statements_of T ws sh (rows_of p)) v.before w.before;
              };
        }

-- ---- a text

module _ {ws sh tx : List ℕ} {t n : ℕ} {texts : List Tree} (a : TextShared ws sh tx t n texts) where
  pub text_below : t < node_limit
  text_below = omega (arith, a.below, a.shared.few)

  pub text_node : NodeShared ws sh tx (get_or tx t 0) n texts
  text_node = record { shared = a.shared; below = a.shared.nodes t a.below }

  text_row : RowShared ws sh n (length texts) (Kept t (get_or tx t 0))
  text_row =
      record {
        unmade = tt;
        named = a.below;
        placed = text_node.below;
        owned = λ z l u e. omega (arith, a.mark);
        unmarked = tt;
      }

  module _ (p : Stage) where
    module _ (new : get_or p.flags t false ≡ false) (l : length p.flags ≡ node_limit) where
      -- a flag set pledges two rows less
      pub flag_pledges : pledged (flag p t) (length texts) + 2 ≡ pledged p (length texts)
      flag_pledges = omega (arith, unset_set p.flags t (length texts) a.below (omega (arith, text_below)) new)

      module _ (p' : Stage) (x : TextsStored n texts ws sh (flag p t) p' (at_sides ws (get_or tx t 0) texts)) where
        pub text_row_fits : RoomFor p.rows (pledged p (length texts)) → RoomFor p'.rows (p'.count + 1)
        text_row_fits h = omega (arith, h, flag_pledges, x.rows, x.room, rows_spend p'.rows 0 p'.count)

        -- inner trees before outer
        text_put : RoomFor p'.rows (p'.count + 1) → TextsStored n texts ws sh p (put p' (Kept t (get_or tx t 0)))
            (at_text ws tx t texts)
        text_put k =
            let root = get_or tx t 0 in
            let r = Kept t root in
            record {
              flags = x.flags;
              rows = put_length p'.rows p'.count r ∙ x.rows;
              room = omega (arith, x.room, flag_pledges, put_spends p'.rows p'.count r k);
              added = added_text p p' t root (omega (arith, text_below)) new a.mark x.added text_row k;
              puts = λ T st h.
                  let q : holds st t ≡ false = h t text_below ∙ new in
                  let y = inside texts T (t ∷ st) (tree ws root) in
                  rw q
                  (row_put p' r k refl
                  (ap (λ (v : Tree). y.before ++ (assign (T t) v ∷ []))
                  (inside_is_seen a.shared T root text_node.below (t ∷ st)))
                  (x.puts T (t ∷ st) (flagged_set p.flags st t (omega (arith, text_below)) h)));
            }

        pub text_new : {q : Stage} → RoomFor p'.rows (p'.count + 1) → q ≡ put p' (Kept t (get_or tx t 0)) →
            TextsStored n texts ws sh p q (at_text ws tx t texts)
        text_new k e = rw e (text_put k)

-- ---- a statement

module _ {ws sh tx : List ℕ} {i n : ℕ} {texts : List Tree} (a : RootShared ws sh tx i n texts) (place : Loc) {p : Stage}
    (p' : Stage) (h : RoomFor p'.rows (p'.count + 1)) (x : TextsStored n texts ws sh p p' (at_node ws i texts)) where
  statement_by : (r : Row) → RowShared ws sh n (length texts) r → spend r ≡ 1 →
      ((y : ℕ) → RootIs r y → (y ≡ i) × (get_or sh i 0 ≡ 0)) →
      ((T : ℕ → Loc) → assign place (view T ws sh i) ≡ row_statement T ws sh r) →
      {q : Stage} → q ≡ put p' r → StatementPut n texts place i ws sh p q
  statement_by r fit one own s e =
      rw e
      record {
        flags = x.flags;
        rows = put_length p'.rows p'.count r ∙ x.rows;
        room = omega (arith, x.room, one, put_spends p'.rows p'.count r h);
        added = added_statement p p' i r own x.added fit h;
        puts = λ T st f.
            let t = tree ws i in
            let g = rewrite_enough texts T (depth t) depth_limit t (omega arith) (node_depth a.node) st in
            let v = rewritten_is_view a.node.shared T i a.node.below st in
            row_put p' r h (ap (λ (y : Rewritten). y.stored) g)
            (ap₂ (λ (y : Rewritten) (z : Statement). y.before ++ (z ∷ [])) g (ap (assign place) v ∙ s T))
            (x.puts T st f);
      }

  pub statement_given : {q : Stage} → get_or sh i 0 ≡ 0 → q ≡ put p' (Given place i) → StatementPut n texts place i ws sh p q
  statement_given z e =
      statement_by (Given place i)
      (record {
        unmade = tt;
        named = tt;
        placed = a.node.below;
        owned = λ y l u. absurd (omega (arith, a.closed y l));
        unmarked = z;
      })
      refl (λ y o. (sym o, z)) (λ T. ap (assign place) (view_unmarked T ws sh i z)) e

  pub statement_copied : {q : Stage} → Marked sh i → q ≡ put p' (Copied place (get_or sh i 0 - 1)) →
      StatementPut n texts place i ws sh p q
  statement_copied k e =
      statement_by (Copied place (get_or sh i 0 - 1))
      (record { unmade = tt; named = (node_text a.node k).below; placed = tt; owned = tt; unmarked = tt })
      refl (λ y o. absurd o) (λ T. ap (assign place) (view_marked T ws sh i k)) e
