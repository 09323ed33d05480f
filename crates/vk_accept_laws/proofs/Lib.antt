mod Grammatical
