-- Items of expressions without parts of their own: literals, ranges, uses, `eod` and uints; and groups.
-- Assumes nothing.
use Prim.Native.Nat.{ℕ, ◌+◌, ◌≤◌, ◌<◌}
use mathlib.Core.Path.{◌≡◌, refl, sym, subst, ◌∙◌}
use mathlib.Core.Logic.{◌⊎◌, inl, inr}
use mathlib.Core.Bool.{Bool, true, false, cond}
use mathlib.Core.List.{List, [], ◌∷◌}
use native.Mathlib.Omega.{arith}
use borrow.Author.Tests.{le-leb}
use lib.Dec.{eqb}
use Rattle.basis.specs.Limits.{max_nesting, max_variables}
use Rattle.text_store.proofs.Numbers.{at_place, at_last_place, at_width_place, at_bound, at_own_from, at_own_end, at_how_bound}
use Rattle.text_parsing.specs.Terminals.{is, is_name}
use Rattle.text_parsing.specs.Symbols.{want, paren, value_set, expression, character_tail, last_character, width, field_set, bound_name, field_end}
use Rattle.text_store.specs.Store.{State, state, nodes_of, terms_of, leaf, bind, term_words, binders_of}
use Rattle.text_parsing.specs.declared.Terminal.{Terminal}
use Rattle.text_productions.specs.Phrases.{Seen, Phrases}
use Rattle.text_shapes.specs.TermShapes.{SetShape}
use Rattle.text_shapes.specs.NodeShapes.{NameAt, NumberAt, CharacterAt, literal_tree, range_tree, use_tree, eod_tree, uint_tree}
use Rattle.text_shapes.proofs.Growth.{Fine}
use Rattle.text_shapes.proofs.Claims.{TermsOnly, TermFacts, Gives, Whole, still, opened, Reads, end, next}
use Rattle.text_shapes.proofs.Building.{gives_after_terms, Inserted, inserted, headed, builds}

-- ---- leaves

leaf_in : (kind place a b c d e : ℕ) {st st' : State} → st' ≡ leaf kind place a b c d e st → Fine st → Fine st' → Inserted (nodes_of st) kind place a b c d e st st'
leaf_in kind place a b c d e {st} z f g = inserted kind place (nodes_of st) a b c d e z f g (omega arith)

module _ {xs : List ℕ} {a b : State} (fine : Fine a) (fine' : Fine b) where
  pub literal_made : {s : Terminal} → Seen xs s → is 3 s ≡ true → b ≡ leaf 6 s.start 0 0 0 0 0 a → Whole xs a b
  literal_made {s} seen t z =
      let n : Inserted (nodes_of a) 6 s.start 0 0 0 0 0 a b = leaf_in 6 s.start 0 0 0 0 0 z fine fine'
      in builds n 0 (omega arith) (literal_tree (headed n) n.count refl (inl (record { terminal = s; seen = seen; literal = t; place = n.at at_place (omega arith) })))

  pub use_made : {s : Terminal} → Seen xs s → is_name s ≡ true → b ≡ leaf 5 s.start 0 0 0 0 0 a → Whole xs a b
  use_made {s} seen t z =
      let n : Inserted (nodes_of a) 5 s.start 0 0 0 0 0 a b = leaf_in 5 s.start 0 0 0 0 0 z fine fine'
      in builds n 0 (omega arith) (use_tree (headed n) n.count refl (record { terminal = s; seen = seen; name = t; place = n.at at_place (omega arith) }))

  pub eod_made : (p : ℕ) → b ≡ leaf 9 p 0 0 0 0 0 a → Whole xs a b
  eod_made p z =
      let n : Inserted (nodes_of a) 9 p 0 0 0 0 0 a b = leaf_in 9 p 0 0 0 0 0 z fine fine'
      in builds n 0 (omega arith) (eod_tree (headed n) n.count refl)

  pub character_made : {p : ℕ} → CharacterAt xs p → b ≡ leaf 6 p 0 0 0 0 0 a → Whole xs a b
  character_made {p} c z =
      let n : Inserted (nodes_of a) 6 p 0 0 0 0 0 a b = leaf_in 6 p 0 0 0 0 0 z fine fine'
      in builds n 0 (omega arith) (literal_tree (headed n) n.count refl (inr (subst (CharacterAt xs) (sym (n.at at_place (omega arith))) c)))

  pub range_made : {p : ℕ} {s : Terminal} → Seen xs s → is 9 s ≡ true → CharacterAt xs p → b ≡ leaf 7 p s.start 0 0 0 0 a → Whole xs a b
  range_made {p} {s} seen t c z =
      let n : Inserted (nodes_of a) 7 p s.start 0 0 0 0 a b = leaf_in 7 p s.start 0 0 0 0 z fine fine'
      in builds n 0 (omega arith)
      (range_tree (headed n) n.count refl (subst (CharacterAt xs) (sym (n.at at_place (omega arith))) c)
      (record { terminal = s; seen = seen; character = t; place = n.at at_last_place (omega arith) }))

-- ---- uints

-- how a uint binds
abbrev Binding : List ℕ → (q how β : ℕ) → Type 0
Binding xs q how β = ((how ≡ 0) × (β ≡ 0)) ⊎ (((how ≡ 1) ⊎ (how ≡ 2)) × (β ≡ 1) × NameAt xs q)

-- the set is read from a to c, and then the node is put
field_made : (p : ℕ) {xs : List ℕ} {d w q how f : ℕ} {a c b : State} → TermFacts xs → d ≤ max_nesting → f ≡ terms_of a → NumberAt xs w → (u β : ℕ) → binders_of a ≡ u + β → Binding xs q how β → Fine a → Phrases xs (value_set d ∷ []) a c → Fine c → b ≡ leaf 8 p w q f (terms_of c) how c → Fine b → Gives xs (nodes_of a) (terms_of a) u a b
field_made p {xs} {d} {w} {q} {how} {f} {a} {c} {b} facts h y number u β z how_is fine s fine-c v fine' =
    let r : SetShape (term_words c) (terms_of a) (terms_of c) × TermsOnly a c = facts.set_read d a c s fine.term_length fine-c.terms h
    in let n : Inserted (nodes_of c) 8 p w q f (terms_of c) how c b = leaf_in 8 p w q f (terms_of c) how v fine-c fine'
    in let g : Gives xs (nodes_of c) (terms_of a) u c b =
    builds n β (r.1.binders_same ∙ z)
    (uint_tree (headed n) n.count
    (record {
      width = subst (NumberAt xs) (sym (n.at at_width_place (omega arith))) number;
      from_is = n.at at_own_from (omega arith) ∙ y;
      end_is = n.at at_own_end (omega arith);
      shape = subst (λ (l : List ℕ). SetShape l (terms_of a) (terms_of c)) (sym n.term_words_same) r.0;
    })
    (record { how = rw (n.at at_how_bound (omega arith), n.at at_bound (omega arith)) how_is }))
    in gives_after_terms r.1 (subst (λ (k : ℕ). Gives xs k (terms_of a) u c b) r.1.nodes_same g)

-- with one more binder nothing else changes
bind_back : {xs : List ℕ} {u : ℕ} {a b c : State} → b ≡ bind a → Gives xs (nodes_of b) (terms_of b) u b c → Gives xs (nodes_of a) (terms_of a) u a c
bind_back {xs} {u} {a} {b} {c} z g = from a (subst (λ (k : State). Gives xs (nodes_of k) (terms_of k) u k c) z g)
  where
    from : (k : State) → Gives xs (nodes_of (bind k)) (terms_of (bind k)) u (bind k) c → Gives xs (nodes_of k) (terms_of k) u k c
    from (state ns ts rs n t v r) h =
        record {
          kept = record { nodes = h.kept.nodes; terms = h.kept.terms; rules = h.kept.rules; more_terms = h.kept.more_terms; more_rules = h.kept.more_rules };
          steady = h.steady;
          part = h.part;
          free = h.free;
        }

bind_one : {a b : State} → b ≡ bind a → Fine a → binders_of b ≡ binders_of a + 1
bind_one {a} {b} z f = subst (λ (k : State). binders_of k ≡ binders_of a + 1) (sym z) (from a f)
  where
    from : (k : State) → Fine k → binders_of (bind k) ≡ binders_of k + 1
    from (state ns ts rs n t v r) g = rw (le-leb v max_variables g.binders)

bind_terms : (a : State) {b : State} → b ≡ bind a → terms_of a ≡ terms_of b
bind_terms a {b} z = subst (λ (k : State). terms_of a ≡ terms_of k) (sym z) (from a)
  where
    from : (k : State) → terms_of k ≡ terms_of (bind k)
    from (state ns ts rs n t v r) = refl

-- outside any group or not
how_binds : (t : Bool) (how : ℕ) → how ≡ cond t 1 2 → (how ≡ 1) ⊎ (how ≡ 2)
how_binds true how z = inl z
how_binds false how z = inr z

-- ---- productions

module _ {xs : List ℕ} {a c : State} where
  pub character_claim : {p : ℕ} {s : Terminal} → Seen xs s → is 9 s ≡ true → p ≡ s.start → Reads xs (character_tail p ∷ []) a c → Whole xs a c
  character_claim {p} {s} seen t z (next x f end) = x (record { terminal = s; seen = seen; character = t; place = z })

  pub to_character_claim : {p : ℕ} → Reads xs (last_character p ∷ []) a c → CharacterAt xs p → Whole xs a c
  to_character_claim (next x f end) z = x z

  pub group_claim : {d e : ℕ} → d < max_nesting → e ≡ d + 1 → Reads xs (expression e ∷ want 41 ∷ []) a c → Whole xs a c
  group_claim h z (next x f (next still g end)) = x (omega arith)

  pub field_atom_claim : {d e p : ℕ} → e ≡ d + 1 → Reads xs (paren d ∷ width e p ∷ []) a c → Whole xs a c
  field_atom_claim z (next (opened l) f (next y g end)) = y (omega arith)

  pub width_claim : {d p w : ℕ} {s : Terminal} → Seen xs s → is 2 s ≡ true → w ≡ s.start → Reads xs (want 44 ∷ field_set d p w ∷ []) a c → d ≤ max_nesting → Whole xs a c
  width_claim {s = s} seen t z (next still f (next y g end)) h = y h (record { terminal = s; seen = seen; number = t; place = z })

  pub binding_claim : {d e p w : ℕ} → e ≡ d + 1 → Reads xs (paren d ∷ bound_name e p w ∷ []) a c → NumberAt xs w → Whole xs a c
  binding_claim z (next (opened l) f (next y g end)) n = y (omega arith) n

  pub not_binding_claim : {d p w f : ℕ} → TermFacts xs → Fine a → f ≡ terms_of a → Reads xs (value_set d ∷ field_end p w 0 0 f ∷ []) a c → d ≤ max_nesting → NumberAt xs w → Whole xs a c
  not_binding_claim {p = p} facts fine z (next x f (next y g end)) h n = field_made p facts h z n (binders_of a) 0 (omega arith) (inl (refl, refl)) fine x f y g

pub binder_claim : {xs : List ℕ} {d p w q how f : ℕ} {a b c : State} {s : Terminal} → TermFacts xs → Fine a → Seen xs s → is_name s ≡ true → b ≡ bind a → q ≡ s.start → how ≡ cond (eqb d 2) 1 2 → f ≡ terms_of a → Reads xs (want 44 ∷ value_set d ∷ want 41 ∷ field_end p w q how f ∷ []) b c → d ≤ max_nesting → NumberAt xs w → Whole xs a c
binder_claim {d = d} {p = p} {how = how} {a = a} {s = s} facts fine seen t z place how_is from (next still fb (next x fx (next still fy (next y fc end)))) h n =
    bind_back z
    (field_made p facts h (from ∙ bind_terms a z) n (binders_of a) 1 (bind_one z fine) (inr (how_binds (eqb d 2) how how_is, refl, record { terminal = s; seen = seen; name = t; place = place })) fb x fx y fc)
