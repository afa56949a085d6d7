use Rattle.ci_source.proofs.OneMeaning.{one_first_fault, compiles-no_fault, one_project, one_trees}
use Rattle.ci_source.proofs.laws.one_meaning.Goals as goal

pub returns-clause-one_fault : goal.returns-clause-one_fault
returns-clause-one_fault c = one_first_fault (record {
  one_list = c.one_reading.ensures.one_list;
  one_fault = c.one_reading.ensures.one_fault;
  never_both = c.one_reading.ensures.not_both;
  tree_or_refused = c.tree_or_refused.ensures;
  one_tree = c.one_tree.ensures;
})

pub returns-clause-never_both : goal.returns-clause-never_both
returns-clause-never_both c = compiles-no_fault (record {
  one_list = c.one_reading.ensures.one_list;
  one_fault = c.one_reading.ensures.one_fault;
  never_both = c.one_reading.ensures.not_both;
  tree_or_refused = c.tree_or_refused.ensures;
  one_tree = c.one_tree.ensures;
})

pub returns-clause-one_project : goal.returns-clause-one_project
returns-clause-one_project c = one_project (record {
  one_list = c.one_reading.ensures.one_list;
  one_fault = c.one_reading.ensures.one_fault;
  never_both = c.one_reading.ensures.not_both;
  tree_or_refused = c.tree_or_refused.ensures;
  one_tree = c.one_tree.ensures;
})

pub returns-clause-one_trees : goal.returns-clause-one_trees
returns-clause-one_trees c = one_trees (record {
  one_list = c.one_reading.ensures.one_list;
  one_fault = c.one_reading.ensures.one_fault;
  never_both = c.one_reading.ensures.not_both;
  tree_or_refused = c.tree_or_refused.ensures;
  one_tree = c.one_tree.ensures;
})
