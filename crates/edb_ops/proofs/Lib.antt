mod Arities
