use Rattle.axiom_library.proofs.Membership as membership
use Rattle.axiom_library.proofs.laws.libraries_have_families.Goals as goal

pub returns : goal.returns
returns c = record {
  with_one = membership.with_one;
  of_list = membership.of_list;
  listed = membership.listed;
  once = membership.once;
  back = membership.back;
  same = membership.same;
  all = membership.all;
}
