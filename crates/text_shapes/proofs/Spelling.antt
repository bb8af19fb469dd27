-- Lists of terms that spell a tree, and those that turn a tree's list into a larger tree's, when they follow it.
-- Assumes nothing.
use Prim.Native.Nat.{ℕ, suc, ◌+◌, ◌*◌, ◌≤◌, ◌<◌}
use mathlib.Core.Path.{◌≡◌, sym, ap, ◌∙◌}
use mathlib.Core.List.{List, [], ◌∷◌, ◌++◌, append_assoc, append-nil}
use native.Mathlib.Omega.{arith}
use Rattle.basis.specs.Limits.{max_nesting, max_rules, max_variables}
use Rattle.term_words.specs.declared.Term.{Term}
use Rattle.term_trees.specs.Trees.{Calculation, ValueSet, Condition}
use Rattle.term_trees.specs.Rooms.{Room, SetRoom, ConditionRoom}
use Rattle.text_shapes.specs.TermShapes.{renamed, renamed_set, renamed_condition}

pub record Spells {T : Type 0} (terms : T → List Term) (ok : T → Type 0) (L : List Term) : Type 0 where
  pub tree : T
  pub is : L ≡ terms tree
  pub fine : ok tree

-- after any tree's list, a larger tree's
pub record Turns {T U : Type 0} (terms : T → List Term) (ok : T → Type 0) (terms' : U → List Term) (ok' : U → Type 0) (L : List Term) : Type 0 where
  pub after : (x : T) → ok x → Spells terms' ok' (terms x ++ L)

abbrev pub Extends : {T : Type 0} → (T → List Term) → (T → Type 0) → List Term → Type 0
Extends terms ok L = Turns terms ok terms ok L

module _ {T U : Type 0} {terms : T → List Term} {ok : T → Type 0} {terms' : U → List Term} {ok' : U → Type 0} where
  pub followed : {L M : List Term} → Spells terms ok L → Turns terms ok terms' ok' M → Spells terms' ok' (L ++ M)
  followed {L} {M} h e =
      let a = e.after h.tree h.fine
      in record { tree = a.tree; is = ap (λ (l : List Term). l ++ M) h.is ∙ a.is; fine = a.fine }

  -- a sign
  pub unary : {M : List Term} (turn : T → U) (z : Term) → ((x : T) → terms' (turn x) ≡ terms x ++ (z ∷ [])) → ((x : T) → ok x → ok' (turn x)) → M ≡ z ∷ [] → Turns terms ok terms' ok' M
  unary turn z is fine e =
      record {
        after = λ x k. record { tree = turn x; is = ap (λ (l : List Term). terms x ++ l) e ∙ sym (is x); fine = fine x k };
      }

  -- a second tree, and the sign that joins it to the first
  pub binary : {okʸ : T → Type 0} {L M : List Term} (join : T → T → U) (z : Term) → ((x y : T) → terms' (join x y) ≡ (terms x ++ terms y) ++ (z ∷ [])) → ((x y : T) → ok x → okʸ y → ok' (join x y)) → Spells terms okʸ L → M ≡ z ∷ [] → Turns terms ok terms' ok' (L ++ M)
  binary {okʸ} {L} {M} join z is fine h e =
      record {
        after = λ x k.
            record {
              tree = join x h.tree;
              is =
                  ap (λ (l : List Term). terms x ++ (l ++ M)) h.is
                  ∙ ap (λ (l : List Term). terms x ++ (terms h.tree ++ l)) e
                  ∙ sym (append_assoc (terms x) (terms h.tree) (z ∷ []))
                  ∙ sym (is x h.tree);
              fine = fine x h.tree k h.fine;
            };
      }

module _ {T : Type 0} {terms : T → List Term} {ok : T → Type 0} where
  pub no_more : Extends terms ok []
  no_more = record { after = λ x k. record { tree = x; is = append-nil (terms x); fine = k } }

  pub and_more : {L M : List Term} → Extends terms ok L → Extends terms ok M → Extends terms ok (L ++ M)
  and_more {L} {M} d e =
      record {
        after = λ x k.
            let a = followed (d.after x k) e
            in record { tree = a.tree; is = sym (append_assoc (terms x) L M) ∙ a.is; fine = a.fine };
      }

  pub weaker : {ok' : T → Type 0} {L : List Term} → ((x : T) → ok x → ok' x) → Spells terms ok L → Spells terms ok' L
  weaker f h = record { tree = h.tree; is = h.is; fine = f h.tree h.fine }

-- ---- room, whatever numbers the variables get

abbrev pub CalculationRoom : Calculation → ℕ → Type 0
CalculationRoom c n = (g : ℕ → ℕ) → ((k : ℕ) → g k < max_rules) → Room max_variables (renamed g c) n

abbrev pub SetsRoom : ValueSet → ℕ → Type 0
SetsRoom x n = (g : ℕ → ℕ) → ((k : ℕ) → g k < max_rules) → SetRoom max_variables (renamed_set g x) n

abbrev pub TestsRoom : Condition → ℕ → Type 0
TestsRoom x n = (g : ℕ → ℕ) → ((k : ℕ) → g k < max_rules) → ConditionRoom max_variables (renamed_condition g x) n

-- wherever at most so many wait before it
pub record Within {T : Type 0} (room : T → ℕ → Type 0) (e : ℕ) (x : T) : Type 0 where
  pub at : (n : ℕ) → n ≤ e → room x n

-- the same within d parentheses of at most 16: two tests wait for each
pub record Deep {T : Type 0} (room : T → ℕ → Type 0) (e d : ℕ) (x : T) : Type 0 where
  pub deep : d ≤ max_nesting → Within room (2 * d + e) x

module _ {T : Type 0} {room : T → ℕ → Type 0} where
  pub less : {e : ℕ} (f : ℕ) {x : T} → f ≤ e → Within room e x → Within room f x
  less f h w = record { at = λ n l. w.at n (omega arith) }

  pub two_within : {e f : ℕ} {x y : T} (join : T → T → T) → ((n : ℕ) → room x n → room y (suc n) → room (join x y) n) → e < f → Within room e x → Within room f y → Within room e (join x y)
  two_within join h l p q = record { at = λ n m. h n (p.at n m) (q.at (suc n) (omega arith)) }

  pub two_deep : {e f d : ℕ} {x y : T} (join : T → T → T) → ((n : ℕ) → room x n → room y (suc n) → room (join x y) n) → e < f → Deep room e d x → Deep room f d y → Deep room e d (join x y)
  two_deep join h l p q = record { deep = λ k. two_within join h (omega arith) (p.deep k) (q.deep k) }

  pub less_deep : {e d : ℕ} (f : ℕ) {x : T} → f ≤ e → Deep room e d x → Deep room f d x
  less_deep {e} {d} f h p = record { deep = λ k. less (2 * d + f) (omega arith) (p.deep k) }

  pub shallow : {d : ℕ} (e : ℕ) {x : T} → e ≤ 29 → Within room 61 x → Deep room e d x
  shallow {d} e h w = record { deep = λ k. less (2 * d + e) (omega arith) w }

  pub inner : {e d : ℕ} (f : ℕ) {x : T} → d < max_nesting → f ≤ e + 2 → Deep room e (d + 1) x → Deep room f d x
  inner {e} {d} f l h p = record { deep = λ k. less (2 * d + f) (omega arith) (p.deep (omega arith)) }
