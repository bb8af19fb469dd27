-- Tokens are read as a tree: what the reader answers is what the tree stores, and the tree is spelled as the tokens.
-- Assumes nothing.
use Prim.Native.Nat.{ℕ}
use mathlib.Core.Path.{◌≡◌, refl, ap, subst, ◌∙◌}
use mathlib.Core.List.{List, [], ◌∷◌}
use Rattle.text_store.specs.Store.{State}
use Rattle.text_parsing.specs.Symbols.{Symbol}
use Rattle.text_parsing.specs.Form.{Consumed, go, done, fault, Outcome, right, refused, run}
use Rattle.tree.specs.Lexemes.{Lexeme, sign, word, numeral, quoted, stray, finish, place_of}
use Rattle.tree_form.proofs.Classified.{code, opens, classified}
use Rattle.tree_form.proofs.Rests.{Rests, spell_all, store_all, Ground}
use Rattle.tree_form.proofs.Leading.{Leads, goes, ends, faults, consumed, stepping}

-- ---- the tree of the tokens, if they have one

pub data Parsed (ks : List Symbol) : Type 0 where
  tree : Rests ks → Parsed ks
  no_tree : Parsed ks

unfoldable pub mapped : {js ks : List Symbol} → (Rests js → Rests ks) → Parsed js → Parsed ks
mapped f (tree r) = tree (f r)
mapped f no_tree = no_tree

-- how it goes on after a token
abbrev pub Onward : Type 0
Onward = (st : State) (ks : List Symbol) → Ground ks → Parsed ks

unfoldable pub after : {x : Lexeme} {st : State} {ks : List Symbol} {f : Consumed} → Onward → Leads x st ks f → Parsed ks
after h (goes {st'} {ks'} back s t g m v) = mapped back (h st' ks' g)
after h (ends r q s t) = tree r
after h faults = no_tree

unfoldable pub parse : (ls : List Lexeme) → Onward
parse [] st ks g = no_tree
parse (x ∷ ls) st ks g = after (λ st' ks' g'. parse ls st' ks' g') (consumed x (opens ls) (code x (opens ls)) refl ks st g)

-- ---- the reader's answer

-- nothing comes after the end
abbrev pub Last : Lexeme → List Lexeme → Type 0
Last (sign kind s) ls = Unit {0}
Last (word n) ls = Unit {0}
Last (numeral n) ls = Unit {0}
Last (quoted l) ls = Unit {0}
Last (stray s) ls = Unit {0}
Last (finish p) ls = [] ≡ ls

abbrev pub Closed : List Lexeme → Type 0
Closed [] = Unit {0}
Closed (x ∷ ls) = Last x ls × Closed ls

pub data Agrees (ls : List Lexeme) (st : State) (ks : List Symbol) : Parsed ks → Outcome → Type 0 where
  is_right : {f : State} (r : Rests ks) → (Closed ls → spell_all ks r ≡ ls) → store_all ks r st ≡ f → Agrees ls st ks (tree r) (right f)
  is_refused : {p : ℕ} → Agrees ls st ks no_tree (refused p)

nothing_after : (x : Lexeme) (ls : List Lexeme) → x ≡ finish (place_of x) → Last x ls → x ∷ [] ≡ x ∷ ls
nothing_after x ls q l = ap (λ (v : List Lexeme). x ∷ v) (subst (λ (y : Lexeme). Last y ls) q l)

lifted : {x : Lexeme} {ls : List Lexeme} {st st' : State} {ks ks' : List Symbol} {q : Parsed ks'} {o : Outcome} (back : Rests ks' → Rests ks) → ((r : Rests ks') → spell_all ks (back r) ≡ x ∷ spell_all ks' r) → ((r : Rests ks') → store_all ks (back r) st ≡ store_all ks' r st') → Agrees ls st' ks' q o → Agrees (x ∷ ls) st ks (mapped back q) o
unfolding mapped
lifted {x} back s t (is_right r a b) = is_right (back r) (λ c. s r ∙ ap (λ (v : List Lexeme). x ∷ v) (a c.1)) (t r ∙ b)
lifted back s t is_refused = is_refused

-- the reader answers what the tree stores, and refuses where there is no tree
pub agrees : (ls : List Lexeme) (st : State) (ks : List Symbol) (g : Ground ks) → Agrees ls st ks (parse ls st ks g) (run (classified ls) st ks)
unfolding parse run classified after
agrees [] st ks g = is_refused
agrees (x ∷ ls) st ks g = by (consumed x (opens ls) (code x (opens ls)) refl ks st g) (λ st' ks' g'. agrees ls st' ks' g')
  where
    by : {f : Consumed} (L : Leads x st ks f) → ((st' : State) (ks' : List Symbol) (g' : Ground ks') → Agrees ls st' ks' (parse ls st' ks' g') (run (classified ls) st' ks')) → Agrees (x ∷ ls) st ks (after (λ st' ks' g'. parse ls st' ks' g') L) (elim f [ go st' ks' ↦ run (classified ls) st' ks' | done st' ↦ right st' | fault ↦ refused (place_of x) ])
    by (goes {st'} {ks'} back s t g' m v) h = lifted back s t (h st' ks' g')
    by (ends r q s t) h = is_right r (λ c. s ∙ nothing_after x ls q c.0) t
    by faults h = is_refused

-- opens the reading of a token
unfoldable pub reading : Unit {0}
unfolding stepping after parse
reading = tt
