use Rattle.vk_names.proofs.laws.read_is_written.Goals as goal

pub returns : goal.returns
returns c name bytes s = (s.fits, s.text)
