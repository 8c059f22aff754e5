use Rattle.nc_text.proofs.WordPatterns as lemmas
use Rattle.nc_text.proofs.same_words.Goals as goal

pub returns : goal.returns
returns c = lemmas.same_words
