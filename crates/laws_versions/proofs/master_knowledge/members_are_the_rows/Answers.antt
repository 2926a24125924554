use Rattle.laws_versions.proofs.GrantMembers.{members_are_the_rows}
use Rattle.laws_versions.proofs.master_knowledge.members_are_the_rows.Goals as goal

pub returns : goal.returns
returns c = members_are_the_rows
