-- `text_digits::Output::decimal` ends: the measure is the number.
use Rattle.text_digits.proofs.Output.+decimal.Given as goal

abbrev pub decreases-decimal : goal.decreases-decimal
decreases-decimal l = l.n
