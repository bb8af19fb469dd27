-- The rules part is of the right form exactly when its tokens spell a tree, then exactly one, and what is stored is what that tree stores.
-- Assumes nothing.
use Prim.Native.Nat.{ℕ, zero, suc}
use mathlib.Core.Path.{◌≡◌, refl, sym, ap, ◌∙◌}
use mathlib.Core.Bool.{false}
use mathlib.Core.List.{List, [], ◌∷◌}
use native.Mathlib.Omega.{arith}
use lib.ListN.{length}
use Rattle.text_store.specs.Store.{State, state}
use Rattle.text_parsing.specs.Symbols.{Symbol}
use Rattle.text_parsing.specs.Form.{Outcome, right, run}
use Rattle.tree.specs.Lexemes.{Lexeme, sign, word, numeral, quoted, stray, finish, lexeme_of, lexemes_from, lexemes}
use Rattle.tree.specs.Tree.{Rules}
use Rattle.tree.specs.Spelling.{spelled}
use Rattle.tree_form.specs.Stored.{stored}
use Rattle.tree_form.specs.Spelled.{answer, SpellsStored}
use Rattle.tree_form.proofs.Classified.{classified, terminals_classified}
use Rattle.tree_form.proofs.Rests.{MoreRules, more_rules, Rests, spell_all, store_all, spell_more_rules, store_more_rules}
use Rattle.tree_form.proofs.Reading.{Parsed, tree, no_tree, parse, Closed, Agrees, is_right, is_refused, agrees}
use Rattle.tree_form.proofs.Told.{reads_rules}

-- what waits at first
abbrev pub start : List Symbol
start = Symbol.rules false ∷ []

-- nothing comes after a text's end
pub closed : (n : ℕ) (xs : List ℕ) (at : ℕ) → Closed (lexemes_from n xs at)
unfolding lexemes_from
closed zero xs at = tt
closed (suc n) xs at = by (lexeme_of xs at) (λ e. closed n xs e)
  where
    by : (x : Lexeme) → ((e : ℕ) → Closed (lexemes_from n xs e)) → Closed (elim x [ sign kind s ↦ sign kind s ∷ lexemes_from n xs s.end | word m ↦ word m ∷ lexemes_from n xs m.end | numeral m ↦ numeral m ∷ lexemes_from n xs m.end | quoted l ↦ quoted l ∷ lexemes_from n xs l.end | stray s ↦ stray s ∷ lexemes_from n xs s.end | finish p ↦ finish p ∷ [] ])
    by (sign kind s) h = (tt, h s.end)
    by (word m) h = (tt, h m.end)
    by (numeral m) h = (tt, h m.end)
    by (quoted l) h = (tt, h l.end)
    by (stray s) h = (tt, h s.end)
    by (finish p) h = (refl, tt)

-- ---- spelled: right

answered : {ls : List Lexeme} {st : State} {ks : List Symbol} {q : Parsed ks} {o : Outcome} (r : Rests ks) → Agrees ls st ks q o → q ≡ tree r → o ≡ right (store_all ks r st)
answered {st = st} {ks = ks} r (is_right {f} r' s t) e = ap right (sym t ∙ ap (λ (z : Rests ks). store_all ks z st) (let w : r' ≡ r = cc in w))
answered r is_refused e = let z : ◌≡◌ {A = ℕ} 0 1 = cc in absurd (omega arith)

-- the tokens of a tree are read, and what it stores is stored
pub spelled_right : (t : Rules) (end : ℕ) (st : State) → run (classified (spelled t end)) st start ≡ right (stored t st)
unfolding store_more_rules
spelled_right t end st = answered (more_rules t end, tt) (agrees (spelled t end) st start tt) ((reads_rules t false end).read st)

pub complete : (xs : List ℕ) (t : Rules) (end : ℕ) (st : State) → lexemes xs ≡ spelled t end → answer xs st ≡ right (stored t st)
complete xs t end st e = ap (λ s. run s st start) (terminals_classified xs ∙ ap classified e) ∙ spelled_right t end st

-- ---- right: spelled

found : {ls : List Lexeme} {st f : State} (r : MoreRules false) → spell_all start (r, tt) ≡ ls → store_all start (r, tt) st ≡ f → SpellsStored ls st f
unfolding spell_more_rules store_more_rules
found (more_rules t p) s e = record { tree = t; end = p; spells = sym s; stores = sym e }

told : {ls : List Lexeme} {st f : State} {q : Parsed start} {o : Outcome} → Closed ls → Agrees ls st start q o → o ≡ right f → SpellsStored ls st f
told c (is_right {f = h} r s t) e = found r.0 (s c) (t ∙ let w : h ≡ _ = cc in w)
told c is_refused e = let z : ◌≡◌ {A = ℕ} 0 1 = cc in absurd (omega arith)

pub sound : (xs : List ℕ) (st f : State) → answer xs st ≡ right f → SpellsStored (lexemes xs) st f
sound xs st f e = told (closed (suc (length xs)) xs 0) (agrees (lexemes xs) st start tt) (ap (λ s. run s st start) (sym (terminals_classified xs)) ∙ e)

-- ---- exactly one

rules_in : MoreRules false → Rules
rules_in (more_rules t p) = t

end_in : MoreRules false → ℕ
end_in (more_rules t p) = p

rules_read : Rules → Parsed start → Rules
rules_read t (tree r) = rules_in r.0
rules_read t no_tree = t

end_read : Parsed start → ℕ
end_read (tree r) = end_in r.0
end_read no_tree = 0

-- two trees with one spelling are one
pub unique : (t t' : Rules) (end end' : ℕ) → spelled t end ≡ spelled t' end' → (t ≡ t') × (end ≡ end')
unfolding rules_in end_in rules_read end_read
unique t t' end end' e =
    let st : State = state [] [] [] 0 0 0 0
    in let same : ◌≡◌ {A = Parsed start} (tree (more_rules t end, tt)) (tree (more_rules t' end', tt)) = sym ((reads_rules t false end).read st) ∙ ap (λ (ls : List Lexeme). parse ls st start tt) e ∙ (reads_rules t' false end').read st
    in (ap (rules_read t) same, ap end_read same)
