use Rattle.laws_versions.proofs.SettledMembers.{settled_entries_are_at_all_members}
use Rattle.laws_versions.proofs.acknowledged_entries.settled_entries_are_at_all_members.Goals as goal

pub returns : goal.returns
returns c = settled_entries_are_at_all_members
