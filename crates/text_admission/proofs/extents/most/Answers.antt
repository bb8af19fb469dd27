use Rattle.text_admission.proofs.extents.most.Goals as goal

pub returns-then-binder : goal.returns-then-binder
returns-then-binder c = simp (← c.binder.ensures, c.if-binder.true)

pub returns : goal.returns
returns c = simp (← c.binder.ensures, c.if-binder.false)
