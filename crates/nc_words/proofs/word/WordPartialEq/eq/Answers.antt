use Rattle.nc_words.proofs.Letters.{letters_same}
use Rattle.nc_words.proofs.word.WordPartialEq.eq.Goals as goal

pub returns : goal.returns
returns c =
    rw (
      ← letters_same c.args.self.now c.args.other.now,
      ← c.letters.ensures.letters,
      ← c.letters-2.ensures.letters,
    ) c.eq.ensures
