-- The words that are encoded from a right text hold the grammar that the text means.
-- Assumes nothing.
use Prim.Native.Nat.{ℕ, ◌+◌, ◌*◌, ◌≤◌, ◌<◌}
use mathlib.Core.Path.{◌≡◌, refl, ap}
use mathlib.Core.Logic.{⊎_elim}
use mathlib.Core.Bool.{true, false, cond}
use mathlib.Core.List.{List, []}
use mathlib.Core.Option.{some}
use native.Mathlib.Omega.{arith}
use borrow.Author.Tests.{ltb-true, ltb-false}
use lib.Dec.{eqb, ltb}
use lib.IntN.{pos}
use lib.ListN.{length, replicate}
use Rattle.basis.specs.Limits.{max_constructs, max_variables}
use Rattle.basis.proofs.Booleans.{which}
use Rattle.theory.specs.Grammar.{alternative, use_of}
use Rattle.table_layout.specs.Places.{construct_word, constructs_at}
use Rattle.table_layout.specs.Constructs.{construct_of, construct_at}
use Rattle.table_layout.specs.Held.{first_context, use_node, node_of, opening, held}
use Rattle.table_layout.specs.declared.Construct.{Construct}
use Rattle.text_shapes.specs.Stored.{Stored}
use Rattle.text_shapes.specs.Placed.{Placed}
use Rattle.text_encoding.specs.Encoded.{encoded}
use Rattle.text_wellformed.specs.Context.{Readable}
use Rattle.text_wellformed.proofs.LaidOut.{words_by_place, few_binders}
use Rattle.text_wellformed.proofs.RuleWords.{body_is}
use Rattle.text_meaning.specs.Meaning.{opened, meant_node, grammar_of}
use Rattle.text_meaning.proofs.NodesHeld.{node_says}

module _ {xs ns ts rs : List ℕ} {n t b r : ℕ} (text : Readable xs ns ts rs n t b r) (stored : Stored xs ns ts) (places : Placed (length xs) ns ts rs) where
  abbrev ws : List ℕ
  ws = encoded xs ns ts rs n r

  -- the words of a number that is no node are 0
  zero_word : (i k : ℕ) → n ≤ i → i < max_constructs → k < 8 → construct_word ws i k ≡ 0
  zero_word i k l h m = (words_by_place text stored places).constructs_rest (constructs_at + 8 * i + k) (omega arith) (omega arith)

  pub past : (i : ℕ) → n ≤ i → construct_at ws i ≡ Construct.Missing
  unfolding construct_at construct_of
  past i l =
      ⊎_elim
      (λ (e : ltb i max_constructs ≡ true).
      let h : i < max_constructs = ltb-true i max_constructs e in
      rw (e, zero_word i 0 l h (omega arith), zero_word i 1 l h (omega arith)) refl)
      (λ (e : ltb i max_constructs ≡ false). rw e refl)
      (which (ltb i max_constructs))

  node_is : (i : ℕ) → node_of ws i (construct_at ws i) ≡ cond (ltb i n) (meant_node xs ns ts rs r i) (alternative [])
  unfolding node_of
  node_is i =
      ⊎_elim (λ (e : ltb i n ≡ true). rw e (node_says text stored places i (ltb-true i n e))) (λ (e : ltb i n ≡ false). rw e (ap (node_of ws i) (past i (ltb-false i n e)))) (which (ltb i n))

  opening_is : use_node ws 0 ≡ opened rs 0
  opening_is = λ t. use_of (λ c. some c) (λ c v. v) (λ v v'. v') (body_is (words_by_place text stored places) text (few_binders text stored places) 0 (omega (arith, text.some)) t)

  pub holds_text : held (encoded xs ns ts rs n r) ≡ grammar_of xs ns ts rs n r
  unfolding held grammar_of
  holds_text = λ t. record { node = λ i. cond (eqb i opening) (opening_is t) (node_is i t); start = opening; context = first_context; values = replicate max_variables (pos 0) }
