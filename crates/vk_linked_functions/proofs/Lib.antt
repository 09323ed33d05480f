mod Agreeing
