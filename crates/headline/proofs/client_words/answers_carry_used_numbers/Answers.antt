use Rattle.headline.proofs.ClientWords.{answers_carry_used_numbers}
use Rattle.headline.proofs.client_words.answers_carry_used_numbers.Goals as goal

pub returns : goal.returns
returns c = answers_carry_used_numbers
