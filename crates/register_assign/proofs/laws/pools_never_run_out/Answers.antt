use Rattle.register_assign.proofs.Placing.{place_of_fitting, fitting_differ}
use Rattle.register_assign.proofs.laws.pools_never_run_out.Goals as goal

pub returns : goal.returns
returns c = record {
  inside = λ g table allocation k ls ordered i l is_table fits order e takes.
      place_of_fitting g table allocation k ls ordered is_table fits order i l e takes;
  apart = λ g table allocation k ls ordered j i m l is_table fits order lt em el takes held.
      fitting_differ g table allocation k ls ordered is_table fits order j i m l lt em el takes held;
}
