use Rattle.laws_base.proofs.MembersRecorded.{members_recorded_what_is_granted}
use Rattle.laws_base.proofs.laws.members_recorded_what_is_granted.Goals as goal

pub returns : goal.returns
returns c = members_recorded_what_is_granted
