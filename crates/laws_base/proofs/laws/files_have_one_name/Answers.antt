use Rattle.laws_base.proofs.NamesLogged.{files_have_one_name}
use Rattle.laws_base.proofs.laws.files_have_one_name.Goals as goal

pub returns : goal.returns
returns c = files_have_one_name
