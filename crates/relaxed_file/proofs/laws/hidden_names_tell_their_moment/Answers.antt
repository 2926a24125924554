use Rattle.relaxed_file.proofs.HiddenMoments.{hidden_names_tell_their_moment}
use Rattle.relaxed_file.proofs.laws.hidden_names_tell_their_moment.Goals as goal

pub returns : goal.returns
returns c = hidden_names_tell_their_moment
