use Rattle.laws_versions.proofs.GrantedMembers.{grants_go_to_members}
use Rattle.laws_versions.proofs.master_rows.grants_go_to_members.Goals as goal

pub returns : goal.returns
returns c = grants_go_to_members
