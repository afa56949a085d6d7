use Rattle.ci_top.proofs.decide.do_job.Goals as goal

pub returns-in-Run : goal.returns-in-Run
returns-in-Run c = rw c.in-Run.is (rw c.project_alone.ensures at c.run_project.ensures)

pub returns-in-List : goal.returns-in-List
returns-in-List c = rw c.in-List.is (rw c.project_alone-in-List.ensures at c.list.ensures)
