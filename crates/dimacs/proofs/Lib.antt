mod ClauseLines
mod Clauses
mod OneFormula
