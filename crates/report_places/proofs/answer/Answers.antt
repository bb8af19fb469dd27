use Rattle.report_places.proofs.answer.Goals as goal

pub returns-in-Construct : goal.returns-in-Construct
returns-in-Construct c = simp (c.in-Construct.is, c.construct.ensures)

pub returns-in-Rule : goal.returns-in-Rule
returns-in-Rule c = simp (c.in-Rule.is, c.rule.ensures, c.inside.ensures)

pub returns-in-Owner : goal.returns-in-Owner
returns-in-Owner c = simp (c.in-Owner.is, c.owner.ensures, c.inside-in-Owner.ensures)

pub returns-in-Definition : goal.returns-in-Definition
returns-in-Definition c = simp (c.in-Definition.is, c.definition.ensures, c.inside-in-Definition.ensures)

pub returns-in-Name : goal.returns-in-Name
returns-in-Name c = simp (c.in-Name.is, c.name.ensures, c.inside-in-Name.ensures)

pub returns-in-Fault : goal.returns-in-Fault
returns-in-Fault c = simp (c.in-Fault.is, c.at_fault.ensures, c.inside-in-Fault.ensures)
