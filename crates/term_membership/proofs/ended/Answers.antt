use mathlib.Core.Path.{ap, ◌∙◌}
use Rattle.term_words.specs.declared.Numbers.{Numbers}
use Rattle.term_membership.specs.Batches.{ends}
use Rattle.term_membership.specs.Truths.{waiting}
use Rattle.term_membership.proofs.ended.Goals as goal

pub returns-in-Zero : goal.returns-in-Zero
returns-in-Zero c = λ masks e j h. ap (λ (s : Numbers). ends s (waiting masks c.args.count j)) c.in-Zero.is ∙ c.alone.ensures masks e j h

pub returns-in-One : goal.returns-in-One
returns-in-One c = λ masks e j h. ap (λ (s : Numbers). ends s (waiting masks c.args.count j)) c.in-One.is ∙ c.nothing.ensures j h

pub returns-in-Two : goal.returns-in-Two
returns-in-Two c = λ masks e j h. ap (λ (s : Numbers). ends s (waiting masks c.args.count j)) c.in-Two.is ∙ c.nothing-in-Two.ensures j h

pub returns-in-Three : goal.returns-in-Three
returns-in-Three c = λ masks e j h. ap (λ (s : Numbers). ends s (waiting masks c.args.count j)) c.in-Three.is ∙ c.nothing-in-Three.ensures j h

pub returns-in-Four : goal.returns-in-Four
returns-in-Four c = λ masks e j h. ap (λ (s : Numbers). ends s (waiting masks c.args.count j)) c.in-Four.is ∙ c.nothing-in-Four.ensures j h
