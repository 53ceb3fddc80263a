use Rattle.graph_meaning.proofs.Classes as classes
use Rattle.graph_meaning.proofs.laws.graphs_are_consistent.Goals as goal

pub returns : goal.returns
returns c =
    record {
      below = classes.rows_low;
      all_below = classes.all_low;
      rows_below = classes.all_below;
      classes = λ g sort class h. classes.class_below g h sort class;
      own_sort = classes.own_sorts;
      one_sort = λ g sort other class h. classes.one_sort g h sort other class;
      constant = λ g row n h. classes.constant_at g h row n;
      constant_row = λ g class n e. classes.constant_row g.rows class n e;
      constant_word = λ g class n h. classes.constant_word g h class n;
      input = classes.input_is;
      no_input = classes.no_input;
      input_word = λ g class register h. classes.input_word g h class register;
      memory_target = classes.target_memory;
    }
