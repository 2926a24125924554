use Rattle.laws_versions.proofs.GrantMembers.{lease_members_are_the_rows}
use Rattle.laws_versions.proofs.master_knowledge.lease_members_are_the_rows.Goals as goal

pub returns : goal.returns
returns c = lease_members_are_the_rows
