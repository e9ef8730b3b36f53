use Rattle.fastlanes.proofs.Deinterleaved.{even_byte, odd_byte}
use Rattle.fastlanes.proofs.bit_transpose.evens_and_odds.Goals as goal

pub returns-clause-evens : goal.returns-clause-evens
returns-clause-evens c j h = even_byte c.args.source.now c.args.from j h c.requires

pub returns-clause-odds : goal.returns-clause-odds
returns-clause-odds c j h = odd_byte c.args.source.now c.args.from j h c.requires
