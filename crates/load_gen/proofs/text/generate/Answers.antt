use Rattle.load_gen.proofs.Source.{generated_source}
use Rattle.load_gen.proofs.Whole.{generated_script}
use Rattle.load_gen.proofs.FewObjects.{generated_few}
use Rattle.load_gen.proofs.text.generate.Goals as goal

pub returns-clause-short : goal.returns-clause-short
returns-clause-short c = (generated_source c.args.number c.args.size c.requires.most).short

pub returns-clause-script : goal.returns-clause-script
returns-clause-script c = (generated_script c.args.number c.args.size c.requires.most).four

pub returns-clause-few : goal.returns-clause-few
returns-clause-few c = generated_few c.args.number c.args.size c.requires.most
