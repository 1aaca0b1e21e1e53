mod Sealings
